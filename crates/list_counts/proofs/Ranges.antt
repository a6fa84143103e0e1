-- Two lists that have each number equally often are permutations of each other; a range has each of its numbers once.
use Rattle.std.proofs.Common.{IsPermutation, ◌≡◌, ℕ, zero, suc, ◌+◌, ◌<◌, ◌≤◌, List, [], ◌∷◌, ◌++◌, nat_eq, refl, sym, ap, subst, ◌⊎◌, inl, inr, ⊎_elim, arith}
use Rattle.std.specs.List.{range_with_len}
use Rattle.std.proofs.lemmas.Bool.{cases_eq}
use Rattle.std.proofs.lemmas.List.Sorted.{IsPermutation-refl, IsPermutation-trans, IsPermutation-sym, IsPermutation-cons, IsPermutation-middle}
use Rattle.list_counts.specs.Times.{times}
use Rattle.list_counts.proofs.Ticks.{tick, tick_same, tick_other}

-- a number that stands in a list stands between two parts of it
found_between : (x : ℕ) (ys : List ℕ) → 0 < times x ys → (before : List ℕ) × (after : List ℕ) × (ys ≡ before ++ x ∷ after)
found_between x [] l = absurd (omega arith)
found_between x (y ∷ ys) l = ⊎_elim
    (λ e. ([], ys, ap (λ z. z ∷ ys) e))
    (λ d. let r = found_between x ys (omega (arith, tick_other y x d)) in (y ∷ r.0, r.1, ap (λ z. y ∷ z) r.2))
    (cases_eq y x)

-- how often a number stands in a list with another put in
times-middle : (a : ℕ) (before : List ℕ) (x : ℕ) (after : List ℕ) → times a (before ++ x ∷ after) ≡ tick (nat_eq x a) + times a (before ++ after)
times-middle a [] x after = refl
times-middle a (b ∷ bs) x after = omega (arith, times-middle a bs x after)

-- two lists that have each number equally often are permutations of each other
pub permutation_by_times : (xs ys : List ℕ) → ((a : ℕ) → times a xs ≡ times a ys) → IsPermutation xs ys
permutation_by_times [] [] h = IsPermutation-refl []
permutation_by_times [] (y ∷ ys) h = absurd (omega (arith, h y, tick_same y y refl))
permutation_by_times (x ∷ xs) ys h =
    let r = found_between x ys (omega (arith, h x, tick_same x x refl)) in
    let ih = permutation_by_times xs (r.0 ++ r.1) (λ a. omega (arith, h a, ap (times a) r.2, times-middle a r.0 x r.1)) in
    subst (IsPermutation (x ∷ xs)) (sym r.2)
    (IsPermutation-trans (x ∷ xs) (x ∷ (r.0 ++ r.1)) (r.0 ++ x ∷ r.1) (IsPermutation-cons x xs (r.0 ++ r.1) ih) (IsPermutation-sym (r.0 ++ x ∷ r.1) (x ∷ (r.0 ++ r.1)) (IsPermutation-middle r.0 x r.1)))

-- a number below a range or past its end doesn't stand in it
pub times-range_out : (a s n : ℕ) → (a < s) ⊎ (s + n ≤ a) → times a (range_with_len s n) ≡ 0
times-range_out a s zero h = refl
times-range_out a s (suc n) (inl l) =
    let d : s ≡ a → ⊥ = λ e. omega (arith, e) in
    omega (arith, times-range_out a (s + 1) n (inl (omega arith)), tick_other s a d)
times-range_out a s (suc n) (inr l) =
    let d : s ≡ a → ⊥ = λ e. omega (arith, e) in
    omega (arith, times-range_out a (s + 1) n (inr (omega arith)), tick_other s a d)

-- a number within a range stands in it once
pub times-range_in : (a s n : ℕ) → s ≤ a → a < s + n → times a (range_with_len s n) ≡ 1
times-range_in a s zero l h = absurd (omega arith)
times-range_in a s (suc n) l h = ⊎_elim
    (λ e. omega (arith, tick_same s a e, times-range_out a (s + 1) n (inl (omega (arith, e)))))
    (λ d. omega (arith, tick_other s a d, times-range_in a (s + 1) n (omega (arith, l, d)) (omega arith)))
    (cases_eq s a)
