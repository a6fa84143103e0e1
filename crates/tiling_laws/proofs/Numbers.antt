-- How many elements of a list pass a test, by recursion, and elements that alone can.
use Rattle.std.proofs.Common.{◌≡◌, ℕ, ◌+◌, Bool, true, false, cond, ◌&&◌, List, [], ◌∷◌, ◌++◌, map, flat_map, filter, count_by, IsPermutation, refl, sym, ap, ap₂, ◌∙◌, subst, arith, inl, inr, ⊎_elim}
use Rattle.std.proofs.lemmas.List.Sorted.{sum_by-IsPermutation}
use Rattle.std.proofs.lemmas.List.Sums.{sum_by-cons}
use Rattle.std.specs.List.{AllByRecursion, IsDistinct}
use Rattle.tiling_laws.proofs.Coinciding.{coincide, flips}
use Rattle.plane_geom.specs.declared.Seg.{Seg}
use Rattle.plane_laws.proofs.Members.{In}

abbrev pub flag : Bool → ℕ
flag b = cond b 1 0

abbrev pub number : {X : Type 0} → (X → Bool) → List X → ℕ
number p [] = 0
number p (x ∷ xs) = flag (p x) + number p xs

pub number_is : {X : Type 0} (p : X → Bool) (xs : List X) → number p xs ≡ count_by p xs
number_is p [] = refl
number_is p (x ∷ xs) = ap (λ n. flag (p x) + n) (number_is p xs) ∙ sym (sum_by-cons (λ x. flag (p x)) x xs)

pub number_permuted : {X : Type 0} (p : X → Bool) (xs ys : List X) → IsPermutation xs ys → number p xs ≡ number p ys
number_permuted p xs ys h = number_is p xs ∙ sym (sum_by-IsPermutation (λ x. flag (p x)) xs ys h) ∙ sym (number_is p ys)

pub number_joined : {X : Type 0} (p : X → Bool) (xs ys : List X) → number p (xs ++ ys) ≡ number p xs + number p ys
number_joined p [] ys = omega arith
number_joined p (x ∷ xs) ys = omega (arith, number_joined p xs ys)

pub number_map : {X Y : Type 0} (p : Y → Bool) (f : X → Y) (xs : List X) → number p (map f xs) ≡ number (λ x. p (f x)) xs
number_map p f [] = refl
number_map p f (x ∷ xs) = ap (λ n. flag (p (f x)) + n) (number_map p f xs)

pub number_filter : {X : Type 0} (p test : X → Bool) (xs : List X) → number p (filter test xs) ≡ number (λ x. test x && p x) xs
number_filter p test [] = refl
number_filter p test (x ∷ xs) = by_test (test x) (number_filter p test xs)
  where
    by_test : (b : Bool) → number p (filter test xs) ≡ number (λ x. test x && p x) xs → number p (cond b (x ∷ filter test xs) (filter test xs)) ≡ flag (b && p x) + number (λ x. test x && p x) xs
    by_test true e = ap (λ n. flag (p x) + n) e
    by_test false e = omega (arith, e)

pub number_same : {X : Type 0} (p q : X → Bool) (xs : List X) → ((x : X) → p x ≡ q x) → number p xs ≡ number q xs
number_same p q [] h = refl
number_same p q (x ∷ xs) h = ap₂ (λ a n. flag a + n) (h x) (number_same p q xs h)

pub number_none : {X : Type 0} (p : X → Bool) (xs : List X) → ((x : X) → In xs x → p x ≡ false) → number p xs ≡ 0
number_none p [] h = refl
number_none p (x ∷ xs) h = ap₂ (λ a n. flag a + n) (h x (inl refl)) (number_none p xs (λ y i. h y (inr i)))

-- as many pass in parts as pass another test among what the parts are of
pub number_flat : {X Y : Type 0} (p : Y → Bool) (q : X → Bool) (g : X → List Y) (xs : List X) → ((x : X) → In xs x → number p (g x) ≡ flag (q x)) → number p (flat_map g xs) ≡ number q xs
number_flat p q g [] h = refl
number_flat p q g (x ∷ xs) h = number_joined p (g x) (flat_map g xs) ∙ ap₂ (λ a b. a + b) (h x (inl refl)) (number_flat p q g xs (λ y i. h y (inr i)))

pub of_each : {X : Type 0} (P : Seg → Type 0) (f : X → Seg) (xs : List X) (x : X) → AllByRecursion P (map f xs) → In xs x → P (f x)
of_each P f [] x h i = absurd i
of_each P f (y ∷ ys) x h i = ⊎_elim (λ e. subst (λ z. P (f z)) e h.0) (λ j. of_each P f ys x h.1 j) i

-- where segments don't coincide, one element alone passes a test that fails where its segment isn't met
pub number_one : {X : Type 0} (f : X → Seg) (p : X → Bool) (u : X) (xs : List X) → IsDistinct coincide (map f xs) → In xs u → ((x : X) → coincide (f u) (f x) ≡ false → p x ≡ false) → number p xs ≡ flag (p u)
unfolding IsDistinct
number_one f p u [] d i h = absurd i
number_one f p u (x ∷ xs) d i h = ⊎_elim
    (λ (e : x ≡ u).
    let rest : number p xs ≡ 0 = number_none p xs (λ y j. h y (subst (λ z. coincide (f z) (f y) ≡ false) e (of_each (λ z. coincide (f x) z ≡ false) f xs y d.0 j))) in
    let same = ap p e in
    omega (arith, rest, ap flag same))
    (λ (j : In xs u).
    let apart = h x (flips (f u) (f x) ∙ of_each (λ z. coincide (f x) z ≡ false) f xs u d.0 j) in
    omega (arith, ap flag apart, number_one f p u xs d.1 j h))
    i
