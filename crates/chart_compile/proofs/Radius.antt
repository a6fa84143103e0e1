-- The radii of a sheet.
use Rattle.std.proofs.Common.{◌≡◌, ℕ, ◌+◌, ◌<◌, ◌≤◌, ◌==◌, ◌||◌, ◌⊎◌, true, List, length, get_or, take, ⊎_elim, inl, inr, sym, ◌∙◌, subst, arith}
use Rattle.std.proofs.lemmas.Bool.{eqb-true, or_cases}
use Rattle.std.proofs.lemmas.List.{get_or-take, length-take-le}

-- there is one, or one for each band
pub one_or_each : (count levels : ℕ) (radius : List ℕ) → count ≤ length radius → (length (take count radius) == 1 || length (take count radius) == levels + 1) ≡ true → (count ≡ 1) ⊎ (count ≡ levels + 1)
one_or_each count levels radius l h =
    let n = length-take-le count radius l in
    ⊎_elim (λ e. inl (sym n ∙ eqb-true (length (take count radius)) 1 e)) (λ e. inr (sym n ∙ eqb-true (length (take count radius)) (levels + 1) e)) (or_cases (length (take count radius) == 1) (length (take count radius) == levels + 1) h)

-- none is over 64,000
pub none_large : (count : ℕ) (radius : List ℕ) → count ≤ length radius → ((k : ℕ) → k < length (take count radius) → get_or (take count radius) k 0 ≤ 64000) → (k : ℕ) → k < count → get_or radius k 0 ≤ 64000
none_large count radius l h k lt =
    let n = length-take-le count radius l in
    subst (λ x. x ≤ 64000) (get_or-take count radius k 0 lt) (h k (omega (arith, n, lt)))
