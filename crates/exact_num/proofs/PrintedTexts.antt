-- What options of a format write.
use Rattle.std.proofs.Common.{◌≡◌, ℕ, ◌-◌, ◌^◌, List, [], ◌++◌, length, replicate, false, arith}
use Rattle.std.proofs.lemmas.List.{append-nil}
use Rattle.std.specs.Fmt.{padded_integral, format_spec, char_count}

pub seven_padded : (ds : List ℕ) → padded_integral (format_spec 32 0 4 7 (2 ^ 64 - 1)) false [] ds ≡ replicate (7 - length ds) 48 ++ ds
unfolding padded_integral char_count
seven_padded ds = let left : (n : ℕ) → n - 0 ≡ n = (λ n. omega arith) in simp (append-nil, left)
