-- How many lines have ended, and that a row with no more lines than go on has none that has ended.
use Rattle.std.proofs.Common.{◌≡◌, ℕ, zero, suc, ◌+◌, ◌<◌, ◌≤◌, ℤ, ◌<ℤ◌, int_lt, Bool, true, false, not, cond, List, [], ◌∷◌, ◌++◌, map, length, take, drop, get_or, refl, ap, sym, ◌∙◌, subst, arith, take-append-drop, length-append, length-drop}
use Rattle.std.specs.List.{filter}
use Rattle.std.specs.List.Sorted.{IsPermutation}
use Rattle.std.proofs.lemmas.Int.{ints}
use Rattle.std.proofs.lemmas.List.{append-nil, get_or-drop, length-take-le}
use Rattle.std.proofs.lemmas.List.Elements.{filter-append}
use Rattle.std.proofs.lemmas.List.Filters.{length-filter_both}
use Rattle.std.proofs.lemmas.List.Sorted.{length_permutation}
use Rattle.cell_check.specs.Sweeps.{goes_above, top_of, Ascend, EndAtMost, HaveSameAbove}
use Rattle.cell_check.specs.declared.line.Line.{Line}
use Rattle.cell_check.specs.declared.order.Height.{Height}
use Rattle.cell_check.proofs.Beginnings.{climbs_by}
use Rattle.cell_check.proofs.Filtering.{none_pass, permuted}

module _ {X : Type 0} (p : X → Bool) where
  filter_le : (xs : List X) → length (filter p xs) ≤ length xs
  filter_le [] = omega arith
  filter_le (x ∷ xs) = by_test (p x) (filter_le xs)
    where
      by_test : (b : Bool) → length (filter p xs) ≤ length xs → length (cond b (x ∷ filter p xs) (filter p xs)) ≤ suc (length xs)
      by_test true h = omega arith
      by_test false h = omega arith

  -- where as many pass as there are, each passes
  pub all_of_full : (xs : List X) → length xs ≤ length (filter p xs) → (k : ℕ) (d : X) → k < length xs → p (get_or xs k d) ≡ true
  all_of_full [] h k d l = absurd (omega arith)
  all_of_full (x ∷ xs) h k d l = by_test (λ g j m. all_of_full xs g j d m) (p x) refl h k l
    where
      by_test : (length xs ≤ length (filter p xs) → (j : ℕ) → j < length xs → p (get_or xs j d) ≡ true) → (b : Bool) → p x ≡ b → suc (length xs) ≤ length (cond b (x ∷ filter p xs) (filter p xs)) → (k : ℕ) → k < length (x ∷ xs) → p (get_or (x ∷ xs) k d) ≡ true
      by_test more true e h zero l = e
      by_test more true e h (suc k) l = more (omega arith) k (omega arith)
      by_test more false e h k l = let m = filter_le xs in absurd (omega arith)

  take_le : (n : ℕ) (xs : List X) → length (filter p (take n xs)) ≤ length (filter p xs)
  take_le n xs =
      let e : length (filter p xs) ≡ length (filter p (take n xs)) + length (filter p (drop n xs)) = ap (λ t. length (filter p t)) (sym (take-append-drop n xs)) ∙ ap length (filter-append p (take n xs) (drop n xs)) ∙ length-append (filter p (take n xs)) (filter p (drop n xs)) in
      omega (arith, e)

filter_map : {X Y : Type 0} (f : X → Y) (q : Y → Bool) (xs : List X) → length (filter (λ x. q (f x)) xs) ≡ length (filter q (map f xs))
filter_map f q [] = refl
filter_map f q (x ∷ xs) = by_test (q (f x)) (filter_map f q xs)
  where
    by_test : (b : Bool) → length (filter (λ y. q (f y)) xs) ≡ length (filter q (map f xs)) → length (cond b (x ∷ filter (λ y. q (f y)) xs) (filter (λ y. q (f y)) xs)) ≡ length (cond b (f x ∷ filter q (map f xs)) (filter q (map f xs)))
    by_test true h = ap suc h
    by_test false h = h

-- whether a height isn't above y
abbrev past : ℤ → Height → Bool
past y h = not (int_lt y h.y)

not_past : (y z : ℤ) → y <ℤ z → not (int_lt y z) ≡ false
not_past y z h = grind (arith, ints)

abbrev y_of : Height → ℤ
y_of h = h.y

pub end_at_most : (rising : List Line) (tops : List Height) (n : ℕ) (y : ℤ) → IsPermutation (map top_of rising) tops → Ascend tops → n ≤ length tops → ((d : Height) → n < length tops → y <ℤ (get_or tops n d).y) → EndAtMost n y rising
end_at_most rising tops n y h up within above =
    let same : length (filter (past y) tops) ≡ length (filter (λ l. not (goes_above y l)) rising) = length_permutation (filter (past y) (map top_of rising)) (filter (past y) tops) (permuted (past y) (map top_of rising) tops h) ∙ sym (filter_map top_of (past y) rising) in
    let rest : filter (past y) (drop n tops) ≡ [] = none_pass (past y) (drop n tops) (λ k d l.
    let there : n + k < length tops = omega (arith, length-drop n tops) in
    let climb = climbs_by y_of tops up d k n there in
    subst (λ (z : Height). not (int_lt y z.y) ≡ false) (sym (get_or-drop n tops k d)) (not_past y (get_or tops (n + k) d).y (let a = above d (omega arith) in omega (arith, ints, a, climb)))) in
    let split : filter (past y) tops ≡ filter (past y) (take n tops) = ap (filter (past y)) (sym (take-append-drop n tops)) ∙ filter-append (past y) (take n tops) (drop n tops) ∙ ap (λ t. filter (past y) (take n tops) ++ t) rest ∙ append-nil (filter (past y) (take n tops)) in
    let few = filter_le (past y) (take n tops) in
    omega (arith, same, ap length split, few, length-take-le n tops within)

-- a row with no more lines than have begun and not ended
pub all_go_on : (rising row : List Line) (begun ended : ℕ) (y : ℤ) → begun ≤ length rising → HaveSameAbove y (take begun rising) row → EndAtMost ended y rising → length row + ended ≤ begun → (k : ℕ) (d : Line) → k < length row → goes_above y (get_or row k d) ≡ true
all_go_on rising row begun ended y within same most few =
    let lengths : length (filter (goes_above y) row) ≡ length (filter (goes_above y) (take begun rising)) = length_permutation (filter (goes_above y) (take begun rising)) (filter (goes_above y) row) same in
    let parts = length-filter_both (goes_above y) (λ l. not (goes_above y l)) (λ l. refl) (take begun rising) in
    let less = take_le (λ l. not (goes_above y l)) begun rising in
    all_of_full (goes_above y) row (omega (arith, lengths, parts, less, most, few, length-take-le begun rising within))
