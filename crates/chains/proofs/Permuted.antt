use Rattle.std.proofs.Common.{IsPermutation, ◌≡◌, ℕ, suc, ◌+◌, ◌<◌, ℤ, pos, ◌-ℤ◌, List, [], ◌∷◌, length, get_or, sum_by, refl, subst, arith}
use Rattle.std.specs.List.{range_with_len}
use Rattle.std.proofs.lemmas.Int.{ints}
use Rattle.std.proofs.lemmas.List.Sums.{sum_by-cons}
use Rattle.std.proofs.lemmas.List.Sorted.{sum_by-IsPermutation}
use Rattle.chains.specs.Nets.{total}
use borrow.Author.Differences.{up, down}

-- a sum is the difference of two sums of natural numbers
split : {X : Type 0} (f : X → ℤ) (xs : List X) → total f xs ≡ pos (sum_by (λ x. up (f x)) xs) -ℤ pos (sum_by (λ x. down (f x)) xs)
split f [] = refl
split f (x ∷ xs) = omega (arith, ints, split f xs, sum_by-cons (λ x. up (f x)) x xs, sum_by-cons (λ x. down (f x)) x xs)

-- the order does not matter
pub total-IsPermutation : {X : Type 0} (f : X → ℤ) (xs ys : List X) → IsPermutation xs ys → total f xs ≡ total f ys
total-IsPermutation f xs ys h = omega (arith, ints, split f xs, split f ys, sum_by-IsPermutation (λ x. up (f x)) xs ys h, sum_by-IsPermutation (λ x. down (f x)) xs ys h)

-- the sum over a list is that over its places
pub total-range : {X : Type 0} (f : X → ℤ) (g : ℕ → ℤ) (d : X) (s : ℕ) (xs : List X) → ((i : ℕ) → i < length xs → g (s + i) ≡ f (get_or xs i d)) → total g (range_with_len s (length xs)) ≡ total f xs
total-range f g d s [] h = refl
total-range f g d s (x ∷ xs) h =
    let z : s + 0 ≡ s = omega arith in
    let first : g s ≡ f x = subst (λ n. g n ≡ f x) z (h 0 (omega arith)) in
    let rest = total-range f g d (s + 1) xs (λ i l. let e : s + suc i ≡ s + 1 + i = omega arith in subst (λ n. g n ≡ f (get_or xs i d)) e (h (suc i) (omega arith))) in
    omega (arith, ints, first, rest)
