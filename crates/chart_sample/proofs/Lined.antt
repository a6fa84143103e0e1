-- The positions of the sample's columns and rows.
use Rattle.std.proofs.Common.{◌≡◌, ℕ, zero, suc, ◌+◌, ◌*◌, ◌^◌, ◌≤◌, ℤ, pos, true, refl, subst, arith}
use Rattle.std.specs.Prelude.{unsigned_abs, reverse}
use Rattle.std.proofs.lemmas.Bool.{le-leb}
use Rattle.std.proofs.lemmas.Int.{ints}
use Rattle.depth_grid.specs.Grid.{ArePlaces, Rises, Falls}
use Rattle.depth_grid.specs.Snap.{snapped}
use Rattle.grid_reader.specs.Shape.{position, positions, is_within, all_within}
use Rattle.grid_reader.proofs.Spread.{one_within}
use Rattle.grid_reader.proofs.Placed.{are_places, steps_up, rises, reverse_places, reverse_steps, falls}

-- the cells of the sample, in units of 10^-24 degree
abbrev pub cell : ℤ
cell = pos (10 ^ 20)

snapped_small : (t most : ℕ) → t ≤ 105 * 10 ^ 24 → 900000000 ≤ most → is_within most (snapped (pos t)) ≡ true
snapped_small t most h m = le-leb _ _ (let low : unsigned_abs (snapped (pos t)) ≤ 900000000 = omega (arith, ints) in omega (arith, low))

-- a position up to 1,025 cells from the first
near : (first most k : ℕ) → first ≤ 104 * 10 ^ 24 → 900000000 ≤ most → k ≤ 1025 → is_within most (position (pos first) cell k) ≡ true
near first most k h m l = snapped_small (first + 2 * k * 10 ^ 20) most (omega arith) m

all_near : (first most count : ℕ) → first ≤ 104 * 10 ^ 24 → 900000000 ≤ most → count ≤ 1025 → all_within most (positions (pos first) cell count) ≡ true
all_near first most zero h m l = refl
all_near first most (suc count) h m l =
    let so_far = all_near first most count h m (omega arith) in
    let more = one_within most (pos first) cell count so_far (near first most count h m (omega arith)) in
    let size : count + 1 ≡ suc count = omega arith in
    subst (λ n. all_within most (positions (pos first) cell n) ≡ true) size more

module _ (first count : ℕ) (low : first ≤ 104 * 10 ^ 24) (several : 2 ≤ count) (few : count ≤ 1025) where
  pub columns : ArePlaces (positions (pos first) cell count) 1800000000
  columns = are_places 1800000000 (pos first) cell count several few (all_near first 1800000000 count low (omega arith) few)

  pub eastwards : Rises (positions (pos first) cell count)
  eastwards = rises _ (steps_up (pos first) cell count (omega (arith, ints)))

  pub rows : ArePlaces (reverse (positions (pos first) cell count)) 900000000
  rows = reverse_places _ 900000000 (are_places 900000000 (pos first) cell count several few (all_near first 900000000 count low (omega arith) few))

  pub southwards : Falls (reverse (positions (pos first) cell count))
  southwards = falls _ (reverse_steps _ (steps_up (pos first) cell count (omega (arith, ints))))
