-- Lists in the order of a number.
use Rattle.std.proofs.Common.{◌≡◌, ℕ, zero, suc, ◌≤◌, Bool, true, false, not, ◌&&◌, cond, eqb, List, [], ◌∷◌, refl, sym, ap, ap₂, ◌∙◌, arith, is_lt, IsPermutation}
use Rattle.std.proofs.lemmas.Bool.Decides.{nat_tests}
use Rattle.std.proofs.lemmas.List.Elements.{All-from_get_or, filter_agree, recursion_from_All, All-from_recursion}
use Rattle.std.proofs.lemmas.List.Sorted.{IsNonDecreasingBy-from_sort, IsPermutation-cons, IsPermutation-middle, IsPermutation-refl, IsPermutation-trans}
use Rattle.std.specs.List.{AllByRecursion, AllPairs, filter}
use Rattle.std.specs.List.Sorted.{IsNonDecreasingBy, IsSortedByKey, IsStableByKey, ties}
use Rattle.std.specs.Ordering.{nat_cmp}
use Rattle.std.specs.Prelude.{nat_le}
use Rattle.chart_picture.specs.Layers.{ordered_by, put_by}

module _ {X : Type 0} (n : X → ℕ) where
  -- ---- the same elements

  put_moves : (x : X) (ys : List X) → IsPermutation (x ∷ ys) (put_by n x ys)
  put_moves x [] = IsPermutation-refl _
  put_moves x (y ∷ ys) =
      elim (nat_le (n x) (n y)) as (λ b. IsPermutation (x ∷ (y ∷ ys)) (cond b (x ∷ (y ∷ ys)) (y ∷ put_by n x ys))) [
        | true ↦ IsPermutation-refl _
        | false ↦ IsPermutation-trans _ _ _ (IsPermutation-middle (x ∷ []) y ys) (IsPermutation-cons y _ _ (put_moves x ys))
      ]

  pub order_moves : (xs : List X) → IsPermutation xs (ordered_by n xs)
  order_moves [] = IsPermutation-refl []
  order_moves (x ∷ xs) = IsPermutation-trans _ _ _ (IsPermutation-cons x _ _ (order_moves xs)) (put_moves x (ordered_by n xs))

  -- ---- rising numbers

  abbrev Rises : List X → Type 0
  Rises [] = Unit {0}
  Rises (x ∷ xs) = AllByRecursion (λ y. n x ≤ n y) xs × Rises xs

  all_weaker : (P Q : X → Type 0) → ((x : X) → P x → Q x) → (xs : List X) → AllByRecursion P xs → AllByRecursion Q xs
  all_weaker P Q f [] all = tt
  all_weaker P Q f (x ∷ xs) all = (f x all.0, all_weaker P Q f xs all.1)

  all_put : (P : X → Type 0) (x : X) (ys : List X) → P x → AllByRecursion P ys → AllByRecursion P (put_by n x ys)
  all_put P x [] h all = (h, tt)
  all_put P x (y ∷ ys) h all =
      elim (nat_le (n x) (n y)) as (λ b. AllByRecursion P (cond b (x ∷ (y ∷ ys)) (y ∷ put_by n x ys))) [ true ↦ (h, all) | false ↦ (all.0, all_put P x ys h all.1) ]

  le_of : (a b : ℕ) → nat_le a b ≡ true → a ≤ b
  le_of a b h = grind (arith, nat_tests)

  ge_of : (a b : ℕ) → nat_le a b ≡ false → b ≤ a
  ge_of a b h = grind (arith, nat_tests)

  le_trans : (a b c : ℕ) → a ≤ b → b ≤ c → a ≤ c
  le_trans a b c h i = omega arith

  rises_put : (x : X) (ys : List X) → Rises ys → Rises (put_by n x ys)
  rises_put x [] up = (tt, tt)
  rises_put x (y ∷ ys) up = go (nat_le (n x) (n y)) refl (rises_put x ys up.1)
    where
      go : (b : Bool) → nat_le (n x) (n y) ≡ b → Rises (put_by n x ys) → Rises (cond b (x ∷ (y ∷ ys)) (y ∷ put_by n x ys))
      go true e later = ((le_of (n x) (n y) e, all_weaker (λ z. n y ≤ n z) (λ z. n x ≤ n z) (λ z h. le_trans (n x) (n y) (n z) (le_of (n x) (n y) e) h) ys up.0), up)
      go false e later = (all_put (λ z. n y ≤ n z) x ys (ge_of (n x) (n y) e) up.0, later)

  rises_ordered : (xs : List X) → Rises (ordered_by n xs)
  rises_ordered [] = tt
  rises_ordered (x ∷ xs) = rises_put x (ordered_by n xs) (rises_ordered xs)

  rises_from : (xs : List X) → IsNonDecreasingBy n xs → Rises xs
  rises_from [] up = tt
  rises_from (x ∷ xs) up = (
    recursion_from_All (λ y. n x ≤ n y) xs (All-from_get_or (λ y. n x ≤ n y) xs x (λ i h. up 0 (suc i) x (omega arith) (omega arith))),
    rises_from xs (λ i j d h k. up (suc i) (suc j) d (omega arith) (omega arith)),
  )

  pairs_from : (xs : List X) → Rises xs → AllPairs (λ x y. n x ≤ n y) xs
  pairs_from [] up i j d h k = absurd (omega arith)
  pairs_from (x ∷ xs) up zero zero d h k = absurd (omega arith)
  pairs_from (x ∷ xs) up zero (suc j) d h k = All-from_recursion (λ y. n x ≤ n y) xs up.0 j d (omega arith)
  pairs_from (x ∷ xs) up (suc i) zero d h k = absurd (omega arith)
  pairs_from (x ∷ xs) up (suc i) (suc j) d h k = pairs_from xs up.1 i j d (omega arith) (omega arith)

  -- of two elements in the order the later has no lesser number
  pub order_rises : (xs : List X) → AllPairs (λ x y. n x ≤ n y) (ordered_by n xs)
  order_rises xs = pairs_from (ordered_by n xs) (rises_ordered xs)

  -- ---- elements of one number stay in their order

  abbrev same : X → X → Bool
  same x y = eqb (n x) (n y)

  swapped : (a b : Bool) (x y : X) (t : List X) → (a ≡ true → b ≡ true → ⊥) → cond b (y ∷ cond a (x ∷ t) t) (cond a (x ∷ t) t) ≡ cond a (x ∷ cond b (y ∷ t) t) (cond b (y ∷ t) t)
  swapped true true x y t h = absurd (h refl refl)
  swapped true false x y t h = refl
  swapped false true x y t h = refl
  swapped false false x y t h = refl

  apart : (v a b : ℕ) → nat_le a b ≡ false → eqb v a ≡ true → eqb v b ≡ true → ⊥
  apart v a b h i j = grind (arith, nat_tests)

  put_keeps : (v x : X) (ys : List X) → filter (same v) (put_by n x ys) ≡ filter (same v) (x ∷ ys)
  put_keeps v x [] = refl
  put_keeps v x (y ∷ ys) = go (nat_le (n x) (n y)) refl (put_keeps v x ys)
    where
      go : (b : Bool) → nat_le (n x) (n y) ≡ b → filter (same v) (put_by n x ys) ≡ filter (same v) (x ∷ ys) → filter (same v) (cond b (x ∷ (y ∷ ys)) (y ∷ put_by n x ys)) ≡ filter (same v) (x ∷ (y ∷ ys))
      go true e later = refl
      go false e later = ap (λ l. cond (same v y) (y ∷ l) l) later ∙ swapped (same v x) (same v y) x y (filter (same v) ys) (apart (n v) (n x) (n y) e)

  order_keeps : (v : X) (xs : List X) → filter (same v) (ordered_by n xs) ≡ filter (same v) xs
  order_keeps v [] = refl
  order_keeps v (x ∷ xs) = put_keeps v x (ordered_by n xs) ∙ ap (λ l. cond (same v x) (x ∷ l) l) (order_keeps v xs)

  -- ---- there is one such order

  abbrev first_of_list : X → List X → X
  first_of_list d [] = d
  first_of_list d (x ∷ xs) = x

  abbrev rest_of_list : List X → List X
  rest_of_list [] = []
  rest_of_list (x ∷ xs) = xs

  itself : (a : ℕ) → eqb a a ≡ true
  itself a = grind (arith, nat_tests)

  equal_of : (a b : ℕ) → eqb a b ≡ true → a ≡ b
  equal_of a b h = grind (arith, nat_tests)

  first_found : (z : X) (zs : List X) → filter (same z) (z ∷ zs) ≡ z ∷ filter (same z) zs
  first_found z zs = ap (λ b. cond b (z ∷ filter (same z) zs) (filter (same z) zs)) (itself (n z))

  -- where an element is found among those of numbers from m on, its number is from m on
  found_above : (m : ℕ) (z : X) (ys : List X) → AllByRecursion (λ y. m ≤ n y) ys → (v : X) (rest : List X) → filter (same z) ys ≡ v ∷ rest → m ≤ n z
  found_above m z [] all v rest h = cc
  found_above m z (y ∷ ys) all v rest h = go (same z y) refl (found_above m z ys all.1 v rest) h
    where
      go : (b : Bool) → same z y ≡ b → (filter (same z) ys ≡ v ∷ rest → m ≤ n z) → cond b (y ∷ filter (same z) ys) (filter (same z) ys) ≡ v ∷ rest → m ≤ n z
      go true e later i = let same_number : n z ≡ n y = equal_of (n z) (n y) e in omega (arith, all.0)
      go false e later i = later i

  rest_alike : (b : Bool) (y z : X) (ys zs : List X) → cond b (y ∷ ys) ys ≡ cond b (z ∷ zs) zs → ys ≡ zs
  rest_alike true y z ys zs h = ap rest_of_list h
  rest_alike false y z ys zs h = h

  le_itself : (a : ℕ) → a ≤ a
  le_itself a = omega arith

  both_le : (a b : ℕ) → a ≤ b → b ≤ a → a ≡ b
  both_le a b h i = omega arith

  one_order : (ys zs : List X) → Rises ys → Rises zs → ((v : X) → filter (same v) ys ≡ filter (same v) zs) → ys ≡ zs
  one_order [] [] up also h = refl
  one_order [] (z ∷ zs) up also h = let e : [] ≡ z ∷ filter (same z) zs = h z ∙ first_found z zs in cc
  one_order (y ∷ ys) [] up also h = let e : y ∷ filter (same y) ys ≡ [] = sym (first_found y ys) ∙ h y in cc
  one_order (y ∷ ys) (z ∷ zs) up also h =
      let below : n y ≤ n z = found_above (n y) z (y ∷ ys) (le_itself (n y), up.0) z (filter (same z) zs) (h z ∙ first_found z zs) in
      let above : n z ≤ n y = found_above (n z) y (z ∷ zs) (le_itself (n z), also.0) y (filter (same y) ys) (sym (h y) ∙ first_found y ys) in
      let number : n z ≡ n y = both_le (n z) (n y) above below in
      let found : y ∷ filter (same y) ys ≡ z ∷ filter (same y) zs = sym (first_found y ys) ∙ h y ∙ ap (λ k. cond (eqb (n y) k) (z ∷ filter (same y) zs) (filter (same y) zs)) number ∙ ap (λ b. cond b (z ∷ filter (same y) zs) (filter (same y) zs)) (itself (n y)) in
      let rests : (v : X) → filter (same v) ys ≡ filter (same v) zs = λ v. rest_alike (same v y) y z (filter (same v) ys) (filter (same v) zs) (h v ∙ ap (λ k. cond (eqb (n v) k) (z ∷ filter (same v) zs) (filter (same v) zs)) number) in
      ap₂ (λ x xs. x ∷ xs) (ap (first_of_list y) found) (one_order ys zs up.1 also.1 rests)

  tied : (a b : ℕ) → (not (is_lt (nat_cmp a b)) && not (is_lt (nat_cmp b a))) ≡ eqb a b
  tied a b = grind (arith, nat_tests)

  -- what a stable sort by the number gives
  pub sort_is : (xs ys : List X) → IsSortedByKey n nat_cmp ys → IsStableByKey n nat_cmp xs ys → ys ≡ ordered_by n xs
  sort_is xs ys sorted stable =
      let agree : (v : X) (zs : List X) → filter (ties (λ x y. is_lt (nat_cmp (n x) (n y))) v) zs ≡ filter (same v) zs = λ v zs. filter_agree (ties (λ x y. is_lt (nat_cmp (n x) (n y))) v) (same v) (λ z. tied (n v) (n z)) zs in
      one_order ys (ordered_by n xs) (rises_from ys (IsNonDecreasingBy-from_sort n ys sorted)) (rises_ordered xs)
      (λ v. sym (agree v ys) ∙ stable v ∙ agree v xs ∙ sym (order_keeps v xs))
