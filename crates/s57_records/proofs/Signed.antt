-- A number of 32 bits that is taken as a signed one.
use Rattle.std.proofs.Common.{◌≡◌, ℕ, ◌<◌, ◌^◌, ap, to_z, of_z, w32}
use Rattle.std.proofs.lemmas.Int.{of_z-to_z}

-- the call that hands a signed number on says so by way of its bits
pub back : (n : ℕ) → n < 2 ^ 32 → to_z w32 (of_z w32 (to_z w32 n)) ≡ to_z w32 n
back n h = ap (λ (m : ℕ). to_z w32 m) (of_z-to_z w32 n h)
