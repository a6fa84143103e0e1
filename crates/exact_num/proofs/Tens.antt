-- A table of powers of ten.
use Rattle.std.proofs.Common.{◌≡◌, ℕ, zero, suc, ◌+◌, ◌^◌, ◌<◌, Bool, true, ◌==◌, ◌&&◌, List, [], ◌∷◌, length, get_or, refl, ap, ◌∙◌, arith}
use Rattle.std.proofs.lemmas.Bool.{and_parts}
use Rattle.std.proofs.lemmas.Bool.Decides.{Decides-eqb}
use Rattle.exact_num.specs.declared.wide.TheConstants.{TENS}

-- the list has the powers of ten from k on
abbrev pub has_tens : ℕ → List ℕ → Bool
has_tens k [] = true
has_tens k (x ∷ xs) = (x == 10 ^ k) && has_tens (k + 1) xs

tens_at : (k i : ℕ) (xs : List ℕ) → has_tens k xs ≡ true → i < length xs → get_or xs i 0 ≡ 10 ^ (k + i)
tens_at k i [] h small = absurd (omega arith)
tens_at k zero (x ∷ xs) h small = let parts = and_parts (x == 10 ^ k) (has_tens (k + 1) xs) h in let at : k + zero ≡ k = omega arith in rw at ((Decides-eqb x (10 ^ k)).0 parts.0)
tens_at k (suc i) (x ∷ xs) h small = let parts = and_parts (x == 10 ^ k) (has_tens (k + 1) xs) h in let at : k + suc i ≡ k + 1 + i = omega arith in rw at (tens_at (k + 1) i xs parts.1 (omega arith))

pub table_tens : (i : ℕ) → i < 33 → get_or TENS i 0 ≡ 10 ^ i
table_tens i small = let at : 0 + i ≡ i = omega arith in tens_at 0 i TENS refl small ∙ ap (λ n. 10 ^ n) at
