-- The first place of a number, and what a search through lists finds.
use Rattle.std.proofs.Common.{◌≡◌, ℕ, ◌+◌, ◌<◌, ◌≤◌, Bool, true, false, cond, not, Option, Some, None, List, [], ◌∷◌, ◌++◌, map, length, take, drop, eqb, ltb, get_or, refl, sym, ◌∙◌, ap, ap₂, subst, Bor, ⊎_elim, arith}
use Rattle.std.proofs.lemmas.Bool.{cases_lt, lt-ltb, le-ltb}
use Rattle.std.proofs.lemmas.List.{append-nil, get_or-take, length-take-le, take_more, take_all, take-append-drop, drop_more, map-id}
use Rattle.std.proofs.lemmas.List.Concat.{flat_map-append, flat_map_single}
use Rattle.std.proofs.lemmas.List.Folds.{list_any_at, list_any_none, find_at, find-append}
use Rattle.std.proofs.lemmas.List.Sums.{passes_at_first, fails_before_first}
use Rattle.std.proofs.lemmas.List.Elements.{All-head, All-tail}
use Rattle.std.specs.List.{All, find, flat_map, list_any, position_or_len, prefix_len, slice_get}
use Rattle.std.specs.Option.{option_copied, option_or}
use Rattle.std.specs.Slice.{IsGetResult}
use Rattle.std.proofs.lemmas.Option.{slice_get_past, slice_get-get_or}
use Rattle.chart_model.specs.Numbers.{has, repeated, repeated_after}

-- some of the first i passes exactly where the first that passes stands before i
pub any_before : {X : Type 0} (p : X → Bool) (xs : List X) (i : ℕ) (d : X) → i ≤ length xs → ltb (position_or_len p xs) i ≡ list_any p (take i xs)
any_before p xs i d h = ⊎_elim
    (λ (b : position_or_len p xs < i).
    let in_take : position_or_len p xs < length (take i xs) = omega (arith, length-take-le i xs h) in
    let here : p (get_or (take i xs) (position_or_len p xs) d) ≡ true = ap p (get_or-take i xs (position_or_len p xs) d b) ∙ passes_at_first p xs d (omega arith) in
    lt-ltb _ _ b ∙ sym (list_any_at p (take i xs) (position_or_len p xs) d in_take here))
    (λ (b : i ≤ position_or_len p xs).
    le-ltb _ _ b ∙ sym (list_any_none p (take i xs) (λ k e w. let low : k < i = omega (arith, length-take-le i xs h) in ap p (get_or-take i xs k e low) ∙ fails_before_first p xs k e (omega arith))))
    (cases_lt (position_or_len p xs) i)

pub any_at_all : {X : Type 0} (p : X → Bool) (xs : List X) (d : X) → ltb (position_or_len p xs) (length xs) ≡ list_any p xs
any_at_all p xs d = any_before p xs (length xs) d (omega arith) ∙ ap (list_any p) (take_all (length xs) xs (omega arith))

prefix_len-map : {X Y : Type 0} (p : Y → Bool) (f : X → Y) (xs : List X) → prefix_len p (map f xs) ≡ prefix_len (λ x. p (f x)) xs
prefix_len-map p f [] = refl
prefix_len-map p f (x ∷ xs) = ap (λ m. cond (p (f x)) (1 + m) 0) (prefix_len-map p f xs)

-- the record at the first place of a number is the first with that number
pub found_by : {X : Type 0} (f : X → ℕ) (xs : List X) (n at : ℕ) → at ≡ position_or_len (λ m. eqb m n) (map f xs) → slice_get xs at ≡ find (λ x. eqb (f x) n) xs
found_by f xs n at e = ap (slice_get xs) (e ∙ prefix_len-map (λ m. not (eqb m n)) f xs) ∙ sym (find_at (λ x. eqb (f x) n) xs)

-- ---- a number that stood before

pub repeat_stops : (ns : List ℕ) (i at : ℕ) → i < length ns → at ≡ position_or_len (λ m. eqb m (get_or ns i 0)) ns → at < i → repeated_after (take i ns) (drop i ns) ≡ repeated ns → Some (get_or ns i 0) ≡ repeated ns
repeat_stops ns i at h e b inv =
    let seen : has (take i ns) (get_or ns i 0) ≡ true = sym (any_before (λ m. eqb m (get_or ns i 0)) ns i 0 (omega arith)) ∙ lt-ltb _ _ (omega arith) in
    sym (ap (repeated_after (take i ns)) (drop_more ns i 0 h) ∙ ap (λ t. cond t (Some (get_or ns i 0)) (repeated_after (take i ns ++ get_or ns i 0 ∷ []) (drop (i + 1) ns))) seen) ∙ inv

pub repeat_goes : (ns : List ℕ) (i at : ℕ) → i < length ns → at ≡ position_or_len (λ m. eqb m (get_or ns i 0)) ns → i ≤ at → repeated_after (take i ns) (drop i ns) ≡ repeated ns → repeated_after (take (i + 1) ns) (drop (i + 1) ns) ≡ repeated ns
repeat_goes ns i at h e b inv =
    let new : has (take i ns) (get_or ns i 0) ≡ false = sym (any_before (λ m. eqb m (get_or ns i 0)) ns i 0 (omega arith)) ∙ le-ltb _ _ (omega arith) in
    ap (λ t. repeated_after t (drop (i + 1) ns)) (take_more ns i 0 h)
    ∙ sym (ap (repeated_after (take i ns)) (drop_more ns i 0 h) ∙ ap (λ t. cond t (Some (get_or ns i 0)) (repeated_after (take i ns ++ get_or ns i 0 ∷ []) (drop (i + 1) ns))) new) ∙ inv

-- ---- a search through lists of lists

pub flat_more : {X Y : Type 0} (g : X → List Y) (xs : List X) (i : ℕ) (d : X) → i < length xs → flat_map g (take (i + 1) xs) ≡ flat_map g (take i xs) ++ g (get_or xs i d)
flat_more g xs i d h = ap (flat_map g) (take_more xs i d h) ∙ flat_map-append g (take i xs) (get_or xs i d ∷ []) ∙ ap (λ t. flat_map g (take i xs) ++ t) (append-nil (g (get_or xs i d)))

-- the search has come to the element x at i of ys, which is xs, and r is what it finds there
module _ {X Y : Type 0} (q : Y → Bool) (g : X → List Y) (xs ys : List X) (i : ℕ) (d x : X) (r : Option Y) (same : ys ≡ xs) (h : i < length ys) (at : x ≡ get_or ys i d) (none : find q (flat_map g (take i ys)) ≡ None) (found : r ≡ find q (g x)) where
  so_far : find q (flat_map g (take (i + 1) ys)) ≡ r
  so_far = ap (find q) (flat_more g ys i d h) ∙ find-append q (flat_map g (take i ys)) (g (get_or ys i d)) ∙ ap₂ option_or none (ap (λ z. find q (g z)) (sym at) ∙ sym found)

  pub find_goes : r ≡ None → find q (flat_map g (take (i + 1) ys)) ≡ None
  find_goes e = so_far ∙ e

  pub find_stops : (y : Y) → r ≡ Some y → Some y ≡ find q (flat_map g xs)
  find_stops y e = sym (
      ap (λ t. find q (flat_map g t)) (sym (take-append-drop (i + 1) ys ∙ same))
      ∙ ap (find q) (flat_map-append g (take (i + 1) ys) (drop (i + 1) ys))
      ∙ find-append q (flat_map g (take (i + 1) ys)) (flat_map g (drop (i + 1) ys))
      ∙ ap (λ t. option_or t (find q (flat_map g (drop (i + 1) ys)))) (so_far ∙ e))

-- the same where each element gives one
module _ {X Y : Type 0} (q : Y → Bool) (f : X → Y) (xs ys : List X) (i : ℕ) (d x : X) (same : ys ≡ xs) (h : i < length ys) (at : x ≡ get_or ys i d) (none : find q (map f (take i ys)) ≡ None) where
  abbrev single : X → List Y
  single z = f z ∷ []

  none_single : find q (flat_map single (take i ys)) ≡ None
  none_single = ap (find q) (flat_map_single f (take i ys)) ∙ none

  pub find_map_goes : q (f x) ≡ false → find q (map f (take (i + 1) ys)) ≡ None
  find_map_goes e = sym (ap (find q) (flat_map_single f (take (i + 1) ys))) ∙ find_goes q single xs ys i d x _ same h at none_single (sym (ap (λ t. cond t (Some (f x)) None) e)) refl

  pub find_map_stops : q (f x) ≡ true → Some (f x) ≡ find q (map f xs)
  find_map_stops e = find_stops q single xs ys i d x _ same h at none_single (sym (ap (λ t. cond t (Some (f x)) None) e)) (f x) refl ∙ ap (find q) (flat_map_single f xs)

-- the same through the list itself
module _ {X : Type 0} (q : X → Bool) (xs ys : List X) (i : ℕ) (d x : X) (same : ys ≡ xs) (h : i < length ys) (at : x ≡ get_or ys i d) (none : find q (take i ys) ≡ None) where
  none_mapped : find q (map (λ z. z) (take i ys)) ≡ None
  none_mapped = ap (find q) (map-id (take i ys)) ∙ none

  pub find_list_goes : q x ≡ false → find q (take (i + 1) ys) ≡ None
  find_list_goes e = sym (ap (find q) (map-id (take (i + 1) ys))) ∙ find_map_goes q (λ z. z) xs ys i d x same h at none_mapped e

  pub find_list_stops : q x ≡ true → Some x ≡ find q xs
  find_list_stops e = find_map_stops q (λ z. z) xs ys i d x same h at none_mapped e ∙ ap (find q) (map-id xs)

-- a search through two lists, one after the other
pub find_both : {Y : Type 0} (q : Y → Bool) (xs ys : List Y) (r s : Option Y) → r ≡ find q xs → option_or r s ≡ option_or r (find q ys) → option_or r s ≡ find q (xs ++ ys)
find_both q xs ys r s e f = f ∙ ap (λ t. option_or t (find q ys)) e ∙ sym (find-append q xs ys)

-- what `get` answers, as the element at a place
pub copied_item : {X : Type 0} (xs : List X) (i : ℕ) (r : Option (Bor X)) → IsGetResult xs i i r → option_copied r ≡ slice_get xs i
copied_item xs i None l = sym (slice_get_past xs i l.3)
copied_item xs i (Some x) l = sym (slice_get-get_or xs i x.now l.3.0 ∙ ap Some (sym (l.3.1 x.now)))

-- what is found keeps what all keep
pub found_keeps : {X : Type 0} (P : X → Type 0) (q : X → Bool) (xs : List X) (x : X) → All P xs → find q xs ≡ Some x → P x
found_keeps P q [] x a e = absurd cc
found_keeps P q (y ∷ ys) x a e = by_test (q y) e (found_keeps P q ys x (All-tail P y ys a))
  where
    by_test : (b : Bool) → cond b (Some y) (find q ys) ≡ Some x → (find q ys ≡ Some x → P x) → P x
    by_test true f rec = let s : y ≡ x = cc in subst P s (All-head P y ys a)
    by_test false f rec = rec f
