-- Bounds of sums over lists.
use Rattle.std.proofs.Common.{◌≡◌, ℕ, zero, suc, ◌+◌, ◌*◌, ℤ, pos, ◌+ℤ◌, ◌≤ℤ◌, List, [], ◌∷◌, true, false, cond, Bool, eqb, length, refl, ◌≤◌, sym, subst, arith, inl, inr, ⊎_elim}
use Rattle.std.proofs.lemmas.Bool.Decides.{nat_tests}
use Rattle.std.proofs.lemmas.Int.{ints}
use Rattle.std.specs.Prelude.{nat_le, flat_map}
use Rattle.std.specs.List.{range_with_len}
use Rattle.mesh_definitions.specs.Mesh.{each_place}
use Rattle.mesh_laws.proofs.Places.{total-flat_map}
use Rattle.plane_laws.proofs.Members.{In}
use Rattle.plane_laws.specs.Borders.{total}

-- a sum of values that are no greater than others
pub total_at_most : {X : Type 0} (f g : X → ℤ) (xs : List X) → ((x : X) → In xs x → f x ≤ℤ g x) → total f xs ≤ℤ total g xs
total_at_most f g [] h = omega (arith, ints)
total_at_most f g (x ∷ xs) h = omega (arith, ints, h x (inl refl), total_at_most f g xs (λ y i. h y (inr i)))

pub total_from_zero : {X : Type 0} (f : X → ℤ) (xs : List X) → ((x : X) → pos 0 ≤ℤ f x) → pos 0 ≤ℤ total f xs
total_from_zero f [] h = omega (arith, ints)
total_from_zero f (x ∷ xs) h = omega (arith, ints, h x, total_from_zero f xs h)

-- a sum of values from 0 up is no less than one of them
pub total_has : {X : Type 0} (f : X → ℤ) (xs : List X) (x : X) → ((y : X) → pos 0 ≤ℤ f y) → In xs x → f x ≤ℤ total f xs
total_has f [] x h i = absurd i
total_has f (y ∷ xs) x h i = ⊎_elim
    (λ e. subst (λ z. f z ≤ℤ (f y +ℤ total f xs)) e (omega (arith, ints, total_from_zero f xs h)))
    (λ j. omega (arith, ints, h y, total_has f xs x h j))
    i

-- a length is a sum
pub total_length : {X : Type 0} (xs : List X) → pos (length xs) ≡ total (λ (x : X). pos 1) xs
total_length [] = refl
total_length (x ∷ xs) = omega (arith, ints, total_length xs)

-- a sum over a range of values that are at most c each
pub range_at_most : (f : ℕ → ℤ) (c a n : ℕ) → ((k : ℕ) → f k ≤ℤ pos c) → total f (range_with_len a n) ≤ℤ pos (n * c)
range_at_most f c a zero h = omega (arith, ints)
range_at_most f c a (suc n) h = omega (arith, ints, h a, range_at_most f c (a + 1) n h)

-- a sum over what the places of a rectangle have, at most c for a place and d for a row
pub places_at_most : {X : Type 0} (g : X → ℤ) (make : ℕ → ℕ → List X) (c d row rows col cols : ℕ) → ((i j : ℕ) → total g (make i j) ≤ℤ pos c) → cols * c ≤ d → total g (each_place row rows col cols make) ≤ℤ pos (rows * d)
places_at_most g make c d row rows col cols h few =
    let places = range_with_len col cols in
    let line = λ (i : ℕ). flat_map (make i) places in
    let of_line : (i : ℕ) → total g (line i) ≤ℤ pos d = λ i.
    let e = total-flat_map g (make i) places in
    let k = range_at_most (λ j. total g (make i j)) c col cols (h i) in
    omega (arith, ints, e, k, few) in
    subst (λ z. z ≤ℤ pos (rows * d)) (sym (total-flat_map g line (range_with_len row rows))) (range_at_most (λ i. total g (line i)) d row rows of_line)

-- a number stands at most once in a range
once_from : (b a n : ℕ) → total (λ k. cond (eqb b k) (pos 1) (pos 0)) (range_with_len a n) ≤ℤ cond (nat_le a b) (pos 1) (pos 0)
once_from b a zero = by (nat_le a b)
  where
    by : (c : Bool) → pos 0 ≤ℤ cond c (pos 1) (pos 0)
    by true = omega (arith, ints)
    by false = omega (arith, ints)
once_from b a (suc n) = by (eqb b a) (nat_le a b) (nat_le (a + 1) b) refl refl refl (once_from b (a + 1) n)
  where
    by : (p q s : Bool) → eqb b a ≡ p → nat_le a b ≡ q → nat_le (a + 1) b ≡ s → {z : ℤ} → z ≤ℤ cond s (pos 1) (pos 0) → (cond p (pos 1) (pos 0) +ℤ z) ≤ℤ cond q (pos 1) (pos 0)
    by true true true x y w h = absurd (grind (arith, nat_tests, x, y, w))
    by true true false x y w h = omega (arith, ints, h)
    by true false s x y w h = absurd (grind (arith, nat_tests, x, y))
    by false true true x y w h = omega (arith, ints, h)
    by false true false x y w h = omega (arith, ints, h)
    by false false true x y w h = absurd (grind (arith, nat_tests, y, w))
    by false false false x y w h = omega (arith, ints, h)

pub once_in : (b a n : ℕ) → total (λ k. cond (eqb b k) (pos 1) (pos 0)) (range_with_len a n) ≤ℤ pos 1
once_in b a n = by (nat_le a b) (once_from b a n)
  where
    by : (c : Bool) {z : ℤ} → z ≤ℤ cond c (pos 1) (pos 0) → z ≤ℤ pos 1
    by true h = h
    by false h = omega (arith, ints, h)

-- 1 for each of a range, or 0
pub all_in : (c : Bool) (a n : ℕ) → total (λ k. cond c (pos 1) (pos 0)) (range_with_len a n) ≤ℤ pos n
all_in c a zero = omega (arith, ints)
all_in true a (suc n) = omega (arith, ints, all_in true (a + 1) n)
all_in false a (suc n) = omega (arith, ints, all_in false (a + 1) n)
