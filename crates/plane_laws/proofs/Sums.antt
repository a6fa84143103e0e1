-- Sums over lists.
use Rattle.std.proofs.Common.{◌≡◌, ℤ, pos, ◌+ℤ◌, ◌-ℤ◌, List, [], ◌∷◌, ◌++◌, map, filter, Bool, true, false, cond, sum_by, fold, IsPermutation, refl, ap, ap₂, sym, ◌∙◌, arith, inl, inr}
use Rattle.std.proofs.lemmas.Int.{ints}
use Rattle.std.proofs.lemmas.List.Sums.{sum_by-cons}
use Rattle.std.proofs.lemmas.List.Sorted.{sum_by-IsPermutation}
use Rattle.plane_laws.specs.Borders.{total}
use Rattle.plane_laws.proofs.Members.{In}
use borrow.Author.Differences.{up, down}

pub total_same : {X : Type 0} (f g : X → ℤ) → ((x : X) → f x ≡ g x) → (xs : List X) → total f xs ≡ total g xs
total_same f g h [] = refl
total_same f g h (x ∷ xs) = ap₂ ◌+ℤ◌ (h x) (total_same f g h xs)

pub total-append : {X : Type 0} (f : X → ℤ) (xs ys : List X) → total f (xs ++ ys) ≡ total f xs +ℤ total f ys
total-append f [] ys = omega (arith, ints)
total-append f (x ∷ xs) ys = omega (arith, ints, total-append f xs ys)

pub total-map : {X Y : Type 0} (f : Y → ℤ) (g : X → Y) (xs : List X) → total f (map g xs) ≡ total (λ x. f (g x)) xs
total-map f g [] = refl
total-map f g (x ∷ xs) = ap (λ z. f (g x) +ℤ z) (total-map f g xs)

pub total-add : {X : Type 0} (f g : X → ℤ) (xs : List X) → total (λ x. f x +ℤ g x) xs ≡ total f xs +ℤ total g xs
total-add f g [] = refl
total-add f g (x ∷ xs) = omega (arith, ints, total-add f g xs)

filter_one : {X : Type 0} (f : X → ℤ) (b : Bool) (x : X) (xs : List X) → total f (cond b (x ∷ xs) xs) ≡ cond b (f x) (pos 0) +ℤ total f xs
filter_one f true x xs = refl
filter_one f false x xs = omega (arith, ints)

pub total-filter : {X : Type 0} (f : X → ℤ) (p : X → Bool) (xs : List X) → total f (filter p xs) ≡ total (λ x. cond (p x) (f x) (pos 0)) xs
total-filter f p [] = refl
total-filter f p (x ∷ xs) = filter_one f (p x) x (filter p xs) ∙ ap (λ z. cond (p x) (f x) (pos 0) +ℤ z) (total-filter f p xs)

pub total-zero : {X : Type 0} (xs : List X) → total (λ (x : X). pos 0) xs ≡ pos 0
total-zero [] = refl
total-zero (x ∷ xs) = omega (arith, ints, total-zero xs)

-- sums over two lists in either order
pub total_swap : {X Y : Type 0} (f : X → Y → ℤ) (xs : List X) (ys : List Y) → total (λ x. total (f x) ys) xs ≡ total (λ y. total (λ x. f x y) xs) ys
total_swap f [] ys = sym (total-zero ys)
total_swap f (x ∷ xs) ys = ap (λ z. total (f x) ys +ℤ z) (total_swap f xs ys) ∙ sym (total-add (f x) (λ y. total (λ x. f x y) xs) ys)

-- a sum is the difference of two sums of natural numbers
split : {X : Type 0} (f : X → ℤ) (xs : List X) → total f xs ≡ pos (sum_by (λ x. up (f x)) xs) -ℤ pos (sum_by (λ x. down (f x)) xs)
split f [] = refl
split f (x ∷ xs) = omega (arith, ints, split f xs, sum_by-cons (λ x. up (f x)) x xs, sum_by-cons (λ x. down (f x)) x xs)

-- the order does not matter
pub total-IsPermutation : {X : Type 0} (f : X → ℤ) (xs ys : List X) → IsPermutation xs ys → total f xs ≡ total f ys
total-IsPermutation f xs ys h = omega (arith, ints, split f xs, split f ys, sum_by-IsPermutation (λ x. up (f x)) xs ys h, sum_by-IsPermutation (λ x. down (f x)) xs ys h)

-- a running sum
pub fold_total : {X : Type 0} (f : X → ℤ) (z : ℤ) (xs : List X) → fold (λ t x. t +ℤ f x) z xs ≡ z +ℤ total f xs
fold_total f z [] = omega (arith, ints)
fold_total f z (x ∷ xs) = omega (arith, ints, fold_total f (z +ℤ f x) xs)

pub total-sub : {X : Type 0} (f g : X → ℤ) (xs : List X) → total (λ x. f x -ℤ g x) xs ≡ total f xs -ℤ total g xs
total-sub f g [] = refl
total-sub f g (x ∷ xs) = omega (arith, ints, total-sub f g xs)

-- two values that agree on the list
pub total_agree : {X : Type 0} (f g : X → ℤ) (xs : List X) → ((x : X) → In xs x → f x ≡ g x) → total f xs ≡ total g xs
total_agree f g [] h = refl
total_agree f g (x ∷ xs) h = ap₂ ◌+ℤ◌ (h x (inl refl)) (total_agree f g xs (λ y i. h y (inr i)))
