-- One more feature: the sides and the positions of areas.
use Rattle.std.proofs.Common.{◌≡◌, ℕ, ◌+◌, ◌<◌, ◌≤◌, Bool, true, false, cond, ◌||◌, zero, suc, Option, Some, None, List, [], ◌∷◌, ◌++◌, append_assoc, map, length, take, get_or, refl, sym, ◌∙◌, ap, ap₂, ⊎_elim, arith}
use Rattle.std.proofs.lemmas.Bool.{or_right}
use Rattle.std.proofs.lemmas.List.{append-nil, get_or_default, length-take-le, take_more}
use Rattle.std.proofs.lemmas.List.Concat.{flat_map-append}
use Rattle.std.proofs.lemmas.List.Elements.{filter-append, filter_more}
use Rattle.std.proofs.lemmas.List.Folds.{list_any-append}
use Rattle.std.proofs.lemmas.Option.{slice_get_cases}
use Rattle.std.specs.List.{filter, flat_map, list_any, slice_get}
use Rattle.chart_model.specs.Areas.{is_area}
use Rattle.chart_model.specs.Lines.{area_segments}
use Rattle.chart_model.specs.declared.records.Feature.{Feature}
use Rattle.chart_model.specs.declared.records.Parts.{Parts}
use Rattle.chart_query.specs.Answer.{is_on}
use Rattle.chart_query.specs.Place.{odd_at, positions}
use Rattle.chart_query.specs.Sides.{side_of, sides_from}
use Rattle.chart_query.specs.declared.sides.Side.{Side}
use Rattle.plane_geom.specs.Geom.{odd_of}
use Rattle.plane_geom.specs.declared.Point.{Point}
use Rattle.plane_geom.specs.declared.Seg.{Seg}

-- the element at a place
pub slice_get_at : {X : Type 0} (xs : List X) (i : ℕ) (d : X) → i < length xs → slice_get xs i ≡ Some (get_or xs i d)
slice_get_at {X = X} xs i d h = ⊎_elim
    (λ (r : (x : X) × (i < length xs) × (slice_get xs i ≡ Some x) × (get_or xs i x ≡ x)). r.2 ∙ ap Some (sym r.3 ∙ get_or_default xs i r.0 d h))
    (λ (r : (length xs ≤ i) × (slice_get xs i ≡ None)). absurd (omega (arith, r.0)))
    (slice_get_cases xs i).1

pub odd_found : (c : Parts) (p : Point) (k : ℕ) (x : Feature) → slice_get c.features k ≡ Some x → odd_at c p k ≡ odd_of (area_segments c x) p
odd_found c p k x e = ap (λ (o : Option Feature). elim o as (λ _. Bool) [ None ↦ false | Some f ↦ odd_of (area_segments c f) p ]) e

positions_push : {X : Type 0} (t : X → Bool) (k : ℕ) (xs : List X) (x : X) → positions t k (xs ++ x ∷ []) ≡ positions t k xs ++ cond (t x) ((k + length xs) ∷ []) []
positions_push t k [] x = ap (λ n. cond (t x) (n ∷ []) []) (omega arith)
positions_push t k (y ∷ xs) x = by_test (t y) (positions_push t (k + 1) xs x ∙ ap (λ n. positions t (k + 1) xs ++ cond (t x) (n ∷ []) []) moved)
  where
    moved : k + 1 + length xs ≡ k + length (y ∷ xs)
    moved = omega arith

    by_test : (b : Bool) → positions t (k + 1) (xs ++ x ∷ []) ≡ positions t (k + 1) xs ++ cond (t x) ((k + length (y ∷ xs)) ∷ []) [] → cond b (k ∷ positions t (k + 1) (xs ++ x ∷ [])) (positions t (k + 1) (xs ++ x ∷ [])) ≡ cond b (k ∷ positions t (k + 1) xs) (positions t (k + 1) xs) ++ cond (t x) ((k + length (y ∷ xs)) ∷ []) []
    by_test true e = ap (λ t. k ∷ t) e
    by_test false e = e

pub positions_more : {X : Type 0} (t : X → Bool) (xs : List X) (i : ℕ) (d : X) → i < length xs → positions t 0 (take (i + 1) xs) ≡ positions t 0 (take i xs) ++ cond (t (get_or xs i d)) (i ∷ []) []
positions_more t xs i d h = ap (positions t 0) (take_more xs i d h) ∙ positions_push t 0 (take i xs) (get_or xs i d) ∙ ap (λ n. positions t 0 (take i xs) ++ cond (t (get_or xs i d)) (n ∷ []) []) (omega (arith, length-take-le i xs (omega arith)))

-- the sides of one feature, where it is an area
abbrev pub sides_at : Parts → ℕ → Feature → List Side
sides_at c k f = cond (is_area f) (map (side_of k) (area_segments c f)) []

sides_push : (c : Parts) (k : ℕ) (fs : List Feature) (f : Feature) → sides_from c k (fs ++ f ∷ []) ≡ sides_from c k fs ++ sides_at c (k + length fs) f
sides_push c k [] f = append-nil (sides_at c k f) ∙ ap (λ n. sides_at c n f) (omega arith)
sides_push c k (g ∷ fs) f = ap (λ t. sides_at c k g ++ t) (sides_push c (k + 1) fs f ∙ ap (λ n. sides_from c (k + 1) fs ++ sides_at c n f) moved) ∙ sym (append_assoc (sides_at c k g) (sides_from c (k + 1) fs) (sides_at c (k + length (g ∷ fs)) f))
  where
    moved : k + 1 + length fs ≡ k + length (g ∷ fs)
    moved = omega arith

pub sides_more : (c : Parts) (fs : List Feature) (i : ℕ) (d : Feature) → i < length fs → sides_from c 0 (take (i + 1) fs) ≡ sides_from c 0 (take i fs) ++ sides_at c i (get_or fs i d)
sides_more c fs i d h = ap (sides_from c 0) (take_more fs i d h) ∙ sides_push c 0 (take i fs) (get_or fs i d) ∙ ap (λ n. sides_from c 0 (take i fs) ++ sides_at c n (get_or fs i d)) (omega (arith, length-take-le i fs (omega arith)))

-- no side of a feature that is no area
pub passed_over : (c : Parts) (fs : List Feature) (i : ℕ) (x : Feature) (sides : List Side) → i < length fs → x ≡ get_or fs i x → is_area x ≡ false → sides ≡ sides_from c 0 (take i fs) → sides ≡ sides_from c 0 (take (i + 1) fs)
passed_over c fs i x sides h at off e = e ∙ sym (sides_more c fs i x h ∙ ap (λ b. sides_from c 0 (take i fs) ++ cond b (map (side_of i) (area_segments c (get_or fs i x))) []) (ap is_area (sym at) ∙ off) ∙ append-nil (sides_from c 0 (take i fs)))

-- the sides of one more area
pub one_more : (c : Parts) (fs : List Feature) (i : ℕ) (x : Feature) (sides after : List Side) (segments : List Seg) → fs ≡ c.features → i < length fs → x ≡ get_or fs i x → is_area x ≡ true → sides ≡ sides_from c 0 (take i fs)
    → ((d : Feature) → segments ≡ area_segments c (get_or c.features i d)) → after ≡ sides ++ map (side_of i) segments → after ≡ sides_from c 0 (take (i + 1) fs)
one_more c fs i x sides after segments same h at on e s f =
    f ∙ ap₂ (λ u v. u ++ map (side_of i) v) e (s x ∙ ap (λ t. area_segments c (get_or t i x)) (sym same))
    ∙ sym (sides_more c fs i x h ∙ ap (λ b. sides_from c 0 (take i fs) ++ cond b (map (side_of i) (area_segments c (get_or fs i x))) []) (ap is_area (sym at) ∙ on))

-- ---- a point, area by area

abbrev seen_on : Parts → Point → List Feature → Bool
seen_on c p fs = list_any (is_on p) (flat_map (area_segments c) (filter is_area fs))

-- p is on a segment of the area at a place
pub on_one : (c : Parts) (p : Point) (fs : List Feature) (i : ℕ) (d : Feature) → i < length fs → is_area (get_or fs i d) ≡ true → list_any (is_on p) (area_segments c (get_or fs i d)) ≡ true → seen_on c p fs ≡ true
on_one c p [] i d h t on = absurd (omega (arith, h))
on_one c p (f ∷ fs) zero d h t on = ap (λ b. list_any (is_on p) (flat_map (area_segments c) (cond b (f ∷ filter is_area fs) (filter is_area fs)))) t ∙ list_any-append (is_on p) (area_segments c f) (flat_map (area_segments c) (filter is_area fs)) ∙ ap (λ b. b || seen_on c p fs) on
on_one c p (f ∷ fs) (suc i) d h t on = by_test (is_area f) (on_one c p fs i d (omega (arith, h)) t on)
  where
    by_test : (b : Bool) → seen_on c p fs ≡ true → list_any (is_on p) (flat_map (area_segments c) (cond b (f ∷ filter is_area fs) (filter is_area fs))) ≡ true
    by_test true e = list_any-append (is_on p) (area_segments c f) (flat_map (area_segments c) (filter is_area fs)) ∙ or_right (list_any (is_on p) (area_segments c f)) (seen_on c p fs) e
    by_test false e = e

-- so far p is on no area, and these have it inside
pub record HaveInside (c : Parts) (p : Point) (fs : List Feature) (found : List ℕ) : Type 0 where
  pub off : list_any (is_on p) (flat_map (area_segments c) (filter is_area fs)) ≡ false
  pub inside : found ≡ filter (odd_at c p) (positions is_area 0 fs)

pub none_so_far : (c : Parts) (p : Point) (found : List ℕ) → found ≡ [] → HaveInside c p [] found
none_so_far c p found e = record { off = refl; inside = e }

module _ (c : Parts) (p : Point) (fs : List Feature) (i : ℕ) (x : Feature) (found : List ℕ) (h : i < length fs) (at : x ≡ get_or fs i x) (so_far : HaveInside c p (take i fs) found) where
  pub not_one : is_area x ≡ false → HaveInside c p (take (i + 1) fs) found
  not_one t = record {
    off = ap (λ ys. list_any (is_on p) (flat_map (area_segments c) ys)) (filter_more is_area fs i x h ∙ ap (λ b. filter is_area (take i fs) ++ cond b (get_or fs i x ∷ []) []) test ∙ append-nil (filter is_area (take i fs))) ∙ so_far.off;
    inside = so_far.inside ∙ sym (ap (filter (odd_at c p)) (positions_more is_area fs i x h ∙ ap (λ b. positions is_area 0 (take i fs) ++ cond b (i ∷ []) []) test ∙ append-nil (positions is_area 0 (take i fs))));
  }
    where
      test : is_area (get_or fs i x) ≡ false
      test = ap is_area (sym at) ∙ t

  pub one_looked_at : (segments : List Seg) (odd : Bool) (after : List ℕ) → fs ≡ c.features → is_area x ≡ true → ((d : Feature) → segments ≡ area_segments c (get_or c.features i d)) → list_any (is_on p) segments ≡ false
      → odd ≡ odd_of segments p → after ≡ found ++ cond odd (i ∷ []) [] → HaveInside c p (take (i + 1) fs) after
  one_looked_at segments odd after same t s off e f = record {
    off = ap (λ ys. list_any (is_on p) (flat_map (area_segments c) ys)) (filter_more is_area fs i x h ∙ ap (λ b. filter is_area (take i fs) ++ cond b (get_or fs i x ∷ []) []) test)
        ∙ ap (list_any (is_on p)) (flat_map-append (area_segments c) (filter is_area (take i fs)) (get_or fs i x ∷ []) ∙ ap (λ t. flat_map (area_segments c) (filter is_area (take i fs)) ++ t) (append-nil (area_segments c (get_or fs i x))))
        ∙ list_any-append (is_on p) (flat_map (area_segments c) (filter is_area (take i fs))) (area_segments c (get_or fs i x))
        ∙ ap₂ (λ a b. a || b) so_far.off (ap (list_any (is_on p)) (sym here) ∙ off);
    inside = f ∙ ap₂ (λ u b. u ++ cond b (i ∷ []) []) so_far.inside (e ∙ sym is_odd)
        ∙ sym (filter-append (odd_at c p) (positions is_area 0 (take i fs)) (i ∷ []))
        ∙ sym (ap (filter (odd_at c p)) (positions_more is_area fs i x h ∙ ap (λ b. positions is_area 0 (take i fs) ++ cond b (i ∷ []) []) test));
  }
    where
      test : is_area (get_or fs i x) ≡ true
      test = ap is_area (sym at) ∙ t

      here : segments ≡ area_segments c (get_or fs i x)
      here = s x ∙ ap (λ t. area_segments c (get_or t i x)) (sym same)

      is_odd : odd_at c p i ≡ odd_of segments p
      is_odd = odd_found c p i (get_or fs i x) (ap (λ t. slice_get t i) (sym same) ∙ slice_get_at fs i x h) ∙ ap (λ t. odd_of t p) (sym here)
