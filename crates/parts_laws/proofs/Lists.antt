-- Lists that are cut, filtered, mapped and joined.
use Rattle.std.proofs.Common.{◌≡◌, ℕ, zero, suc, ◌+◌, ◌<◌, Bool, true, false, cond, List, [], ◌∷◌, ◌++◌, map, filter, length, get_or, drop, All, refl, sym, ap, ◌∙◌, subst, arith}
use Rattle.std.specs.List.{range_with_len}
use Rattle.std.proofs.lemmas.List.{get_or-map, length-map}
use Rattle.std.proofs.lemmas.List.Elements.{All-head, All-map, All-tail}
use Rattle.plane_laws.proofs.Lists.{all_below}

-- ---- a list whose images stand in two parts

pub record IsSplit {X Y : Type 0} (f : X → Y) (xs : List X) (us vs : List Y) : Type 0 where
  pub front : List X
  pub rest : List X
  pub is : xs ≡ front ++ rest
  pub fronts : map f front ≡ us
  pub rests : map f rest ≡ vs

pub cut : {X Y : Type 0} (f : X → Y) (xs : List X) (us vs : List Y) → map f xs ≡ us ++ vs → IsSplit f xs us vs
cut f xs [] vs e = record { front = []; rest = xs; is = refl; fronts = refl; rests = e }
cut f [] (u ∷ us) vs e = let n = ap length e in absurd (omega (arith, n))
cut f (x ∷ xs) (u ∷ us) vs e =
    let r = cut f xs us vs (ap (drop 1) e) in
    record { front = x ∷ r.front; rest = r.rest; is = ap (λ t. x ∷ t) r.is; fronts = ap (λ t. get_or t 0 u ∷ map f r.front) e ∙ ap (λ t. u ∷ t) r.fronts; rests = r.rests }

-- ---- what holds of all on lists that are made of other lists

-- on a list of which another is seen through f
pub of_images : {X Y : Type 0} (f : X → Y) (P : Y → Type 0) (xs : List X) (ys : List Y) → map f xs ≡ ys → All P ys → All (λ x. P (f x)) xs
of_images f P xs ys e h = λ k d l.
    let long = length-map xs f in
    let at : All P (map f xs) = subst (All P) (sym e) h in
    subst P (get_or-map f xs k d (f d) l) (at k (f d) (omega (arith, long, l)))

-- of records that are made place by place
pub all_made : {X : Type 0} (P : X → Type 0) (f : ℕ → X) (n : ℕ) → ((k : ℕ) → k < n → P (f k)) → All P (map f (range_with_len 0 n))
all_made P f n h = All-map P f (range_with_len 0 n) (all_below (λ k. P (f k)) n h)

-- ---- filters

-- all of a list, or none
abbrev pub pick : {X : Type 0} → Bool → List X → List X
pick b xs = cond b xs []

-- a test that answers the same for each element keeps all or none
pub picked : {X : Type 0} (p : X → Bool) (b : Bool) (xs : List X) → All (λ x. p x ≡ b) xs → filter p xs ≡ pick b xs
picked p true [] h = refl
picked p false [] h = refl
picked p true (x ∷ xs) h = ap (λ b. cond b (x ∷ filter p xs) (filter p xs)) (All-head (λ x. p x ≡ true) x xs h) ∙ ap (λ t. x ∷ t) (picked p true xs (All-tail (λ x. p x ≡ true) x xs h))
picked p false (x ∷ xs) h = ap (λ b. cond b (x ∷ filter p xs) (filter p xs)) (All-head (λ x. p x ≡ false) x xs h) ∙ picked p false xs (All-tail (λ x. p x ≡ false) x xs h)

-- ---- maps

pub map_twice : {X Y Z : Type 0} (f : Y → Z) (g : X → Y) (xs : List X) → map f (map g xs) ≡ map (λ x. f (g x)) xs
map_twice f g [] = refl
map_twice f g (x ∷ xs) = ap (λ zs. f (g x) ∷ zs) (map_twice f g xs)

-- numbers by their places, counted from one more
pub counted : (a n : ℕ) → map (λ k. k + 1) (range_with_len a n) ≡ range_with_len (a + 1) n
counted a zero = refl
counted a (suc n) = ap (λ t. (a + 1) ∷ t) (counted (a + 1) n)
