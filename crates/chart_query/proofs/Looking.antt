-- What the buckets on a point's way say of the chart's areas.
use Rattle.std.proofs.Common.{◌≡◌, ℕ, suc, ◌+◌, ◌/◌, ◌<◌, ◌≤◌, ltb, leb, eqb, ℤ, pos, ◌<ℤ◌, ◌≤ℤ◌, Bool, true, false, cond, ◌&&◌, ◌||◌, List, [], ◌∷◌, ◌++◌, map, length, get_or, drop, refl, sym, ◌∙◌, ap, ap₂, subst, ◌⊎◌, inl, inr, ⊎_elim, arith}
use Rattle.std.proofs.lemmas.Bool.{and_from, and_parts, eqb-true, or_cases, or_from, or_left, or_right, false≢true}
use Rattle.std.proofs.lemmas.Int.{ints, by_lt_z}
use Rattle.std.proofs.lemmas.List.{append-nil, at_drop_all, at_drop_more}
use Rattle.std.proofs.lemmas.List.Elements.{All-head, All-tail, All-weaker}
use Rattle.std.proofs.lemmas.List.Folds.{list_any-append}
use Rattle.std.proofs.lemmas.List.Sums.{count_by-le-length}
use Rattle.std.specs.List.{All, Contains, filter, flat_map, fold, list_any}
use Rattle.std.specs.Int.RustNames.{int_le, int_lt}
use Rattle.std.specs.Ordering.{int_eq}
use Rattle.chart_model.specs.Areas.{is_area}
use Rattle.chart_model.specs.Lines.{area_segments}
use Rattle.chart_model.specs.declared.records.Feature.{Feature}
use Rattle.chart_model.specs.declared.records.Parts.{Parts}
use Rattle.chart_query.proofs.Collecting.{odd_found, sides_at, slice_get_at}
use Rattle.chart_query.proofs.Gathering.{any_is, gather, gather-append, gather-map, gather_agree, gather_both, gather_over, gather_sides, IsJoin, joins_or, joins_xor, meets, or}
use Rattle.chart_query.proofs.Heights.{gt_of, high_by_strips, le_of, low_by_strips, lt_of, of_le, same_strip}
use Rattle.chart_query.proofs.Splitting.{after_first, either, height_meets, way_meets, way_within}
use Rattle.chart_query.proofs.Toggling.{has, has-toggled, has_below, Rises-toggled, Rises-weaker, same_rising}
use Rattle.chart_query.specs.Answer.{is_on, is_on_area}
use Rattle.chart_query.specs.Buckets.{AreBuckets, bucket, bucket_at, HasBucket}
use Rattle.chart_query.specs.Owners.{Rises, toggled, toggled_by}
use Rattle.chart_query.specs.Place.{insides, odd_at, positions}
use Rattle.chart_query.specs.Ready.{entries_of, IsReady, sides_in}
use Rattle.chart_query.specs.Sides.{high_of, is_on_side, low_of, side_of, sides_from}
use Rattle.chart_query.specs.Split.{buckets_of, way_nodes}
use Rattle.chart_query.specs.Strips.{HasEnds, strip}
use Rattle.chart_query.specs.declared.sides.Side.{Side}
use Rattle.chart_query.specs.declared.split.Entry.{Entry}
use Rattle.plane_geom.specs.Geom.{cross_of, falls_east, is_between, odd_of, passes, rises_east, xor}
use Rattle.plane_geom.specs.declared.Point.{Point}
use Rattle.plane_geom.specs.declared.Seg.{Seg}

-- whether a side passes p's height east of p and belongs to the feature at a position
abbrev pub owned_by : ℕ → Point → Side → Bool
owned_by n p s = passes s.segment p && eqb s.feature n

-- ---- toggling

pub has-toggled_by : (n : ℕ) (p : Point) (owners : List ℕ) (sides : List Side) → Rises 0 owners → (has n (toggled_by p owners sides) ≡ xor (has n owners) (gather xor (owned_by n p) sides)) × Rises 0 (toggled_by p owners sides)
has-toggled_by n p owners [] r = (sym (joins_xor.right (has n owners)), r)
has-toggled_by n p owners (s ∷ sides) r =
    let next = has-toggled_by n p (cond (passes s.segment p) (toggled s.feature owners) owners) sides (stays (passes s.segment p)) in
    (next.0 ∙ ap (λ b. xor b (gather xor (owned_by n p) sides)) (one (passes s.segment p)) ∙ joins_xor.assoc (has n owners) (owned_by n p s) (gather xor (owned_by n p) sides), next.1)
  where
    stays : (b : Bool) → Rises 0 (cond b (toggled s.feature owners) owners)
    stays true = Rises-toggled 0 s.feature owners (omega arith) r
    stays false = r

    one : (b : Bool) → has n (cond b (toggled s.feature owners) owners) ≡ xor (has n owners) (b && eqb s.feature n)
    one true = has-toggled 0 n s.feature owners r
    one false = sym (joins_xor.right (has n owners))

-- ---- a walk over some buckets

pub record Walks (p : Point) (ends : List ℕ) (sides : List Side) (all left : List ℕ) (inside : List ℕ) : Type 0 where
  pub rising : Rises 0 inside
  pub there : All (HasBucket ends sides) left
  pub on : gather or (is_on_side p) (flat_map (bucket_at ends sides) left) ≡ gather or (is_on_side p) (flat_map (bucket_at ends sides) all)
  pub odd : (n : ℕ) → xor (has n inside) (gather xor (owned_by n p) (flat_map (bucket_at ends sides) left)) ≡ gather xor (owned_by n p) (flat_map (bucket_at ends sides) all)

module _ (p : Point) (ends : List ℕ) (sides : List Side) (all : List ℕ) where
  pub walk_begins : (inside : List ℕ) → inside ≡ [] → All (HasBucket ends sides) all → Walks p ends sides all all inside
  walk_begins inside e h = record {
    rising = subst (Rises 0) (sym e) tt;
    there = h;
    on = refl;
    odd = λ n. ap (λ t. xor (has n t) (gather xor (owned_by n p) (flat_map (bucket_at ends sides) all))) e;
  }

  pub walk_meets : (k : ℕ) (left inside : List ℕ) → Walks p ends sides all (k ∷ left) inside → list_any (is_on_side p) (bucket_at ends sides k) ≡ true → gather or (is_on_side p) (flat_map (bucket_at ends sides) all) ≡ true
  walk_meets k left inside w e =
      sym w.on ∙ gather-append or joins_or (is_on_side p) (bucket_at ends sides k) (flat_map (bucket_at ends sides) left)
      ∙ ap (λ b. or b (gather or (is_on_side p) (flat_map (bucket_at ends sides) left))) (sym (any_is (is_on_side p) (bucket_at ends sides k)) ∙ e)

  pub walk_goes_on : (k : ℕ) (left inside after : List ℕ) → Walks p ends sides all (k ∷ left) inside → list_any (is_on_side p) (bucket_at ends sides k) ≡ false → after ≡ toggled_by p inside (bucket_at ends sides k) → Walks p ends sides all left after
  walk_goes_on k left inside after w e f = record {
    rising = subst (Rises 0) (sym f) (has-toggled_by 0 p inside (bucket_at ends sides k) w.rising).1;
    there = All-tail (HasBucket ends sides) k left w.there;
    on = sym (gather-append or joins_or (is_on_side p) (bucket_at ends sides k) (flat_map (bucket_at ends sides) left)
        ∙ ap (λ b. or b (gather or (is_on_side p) (flat_map (bucket_at ends sides) left))) (sym (any_is (is_on_side p) (bucket_at ends sides k)) ∙ e)) ∙ w.on;
    odd = λ n. ap (λ b. xor b (gather xor (owned_by n p) (flat_map (bucket_at ends sides) left))) (ap (has n) f ∙ (has-toggled_by n p inside (bucket_at ends sides k) w.rising).0)
        ∙ joins_xor.assoc (has n inside) (gather xor (owned_by n p) (bucket_at ends sides k)) (gather xor (owned_by n p) (flat_map (bucket_at ends sides) left))
        ∙ ap (xor (has n inside)) (sym (gather-append xor joins_xor (owned_by n p) (bucket_at ends sides k) (flat_map (bucket_at ends sides) left))) ∙ w.odd n;
  }

  pub walk_ends : (inside : List ℕ) (n : ℕ) → Walks p ends sides all [] inside → has n inside ≡ gather xor (owned_by n p) (flat_map (bucket_at ends sides) all)
  walk_ends inside n w = sym (joins_xor.right (has n inside)) ∙ w.odd n

-- ---- all sides and the chart's areas

on_from : (c : Parts) (p : Point) (k : ℕ) (fs : List Feature) → list_any (is_on_side p) (sides_from c k fs) ≡ list_any (is_on p) (flat_map (area_segments c) (filter is_area fs))
on_from c p k [] = refl
on_from c p k (f ∷ fs) = list_any-append (is_on_side p) (sides_at c k f) (sides_from c (k + 1) fs) ∙ by_test (is_area f) (on_from c p (k + 1) fs)
  where
    here : (segments : List Seg) → list_any (is_on_side p) (map (side_of k) segments) ≡ list_any (is_on p) segments
    here [] = refl
    here (s ∷ ss) = ap (λ b. is_on p s || b) (here ss)

    by_test : (b : Bool) → list_any (is_on_side p) (sides_from c (k + 1) fs) ≡ list_any (is_on p) (flat_map (area_segments c) (filter is_area fs))
        → (list_any (is_on_side p) (cond b (map (side_of k) (area_segments c f)) []) || list_any (is_on_side p) (sides_from c (k + 1) fs)) ≡ list_any (is_on p) (flat_map (area_segments c) (cond b (f ∷ filter is_area fs) (filter is_area fs)))
    by_test true e = ap₂ (λ a b. a || b) (here (area_segments c f)) e ∙ sym (list_any-append (is_on p) (area_segments c f) (flat_map (area_segments c) (filter is_area fs)))
    by_test false e = e

odd_is : (p : Point) (b : Bool) (segments : List Seg) → fold (λ t s. xor t (passes s p)) b segments ≡ xor b (gather xor (λ s. passes s p) segments)
odd_is p b [] = sym (joins_xor.right b)
odd_is p b (s ∷ ss) = odd_is p (xor b (passes s p)) ss ∙ joins_xor.assoc b (passes s p) (gather xor (λ s. passes s p) ss)

rise_filtered : {X : Type 0} (q : ℕ → Bool) (t : X → Bool) (k : ℕ) (xs : List X) → Rises k (filter q (positions t k xs))
rise_filtered q t k [] = tt
rise_filtered q t k (x ∷ xs) = by_test (t x) (rise_filtered q t (k + 1) xs)
  where
    one : (b : Bool) → Rises (k + 1) (filter q (positions t (k + 1) xs)) → Rises k (cond b (k ∷ filter q (positions t (k + 1) xs)) (filter q (positions t (k + 1) xs)))
    one true r = (omega arith, r)
    one false r = Rises-weaker (k + 1) k (filter q (positions t (k + 1) xs)) (omega arith) r

    by_test : (a : Bool) → Rises (k + 1) (filter q (positions t (k + 1) xs)) → Rises k (filter q (cond a (k ∷ positions t (k + 1) xs) (positions t (k + 1) xs)))
    by_test true r = one (q k) r
    by_test false r = Rises-weaker (k + 1) k (filter q (positions t (k + 1) xs)) (omega arith) r

pub insides_rise : (c : Parts) (p : Point) → Rises 0 (insides c p)
insides_rise c p = rise_filtered (odd_at c p) is_area 0 c.features

-- the areas that an odd number of sides belongs to
owned_from : (c : Parts) (p : Point) (n : ℕ) (q : ℕ → Bool) (k : ℕ) (fs : List Feature) → ((i : ℕ) (d : Feature) → i < length fs → q (k + i) ≡ odd_of (area_segments c (get_or fs i d)) p)
    → gather xor (owned_by n p) (sides_from c k fs) ≡ has n (filter q (positions is_area k fs))
owned_from c p n q k [] h = refl
owned_from c p n q k (f ∷ fs) h =
    gather-append xor joins_xor (owned_by n p) (sides_at c k f) (sides_from c (k + 1) fs)
    ∙ ap (xor (gather xor (owned_by n p) (sides_at c k f))) (owned_from c p n q (k + 1) fs (λ i d l. ap q (omega arith) ∙ h (suc i) d (omega (arith, l))))
    ∙ by_test (is_area f)
  where
    own : gather xor (owned_by n p) (map (side_of k) (area_segments c f)) ≡ (q k && eqb k n)
    own = gather-map xor joins_xor (owned_by n p) (side_of k) (area_segments c f)
        ∙ gather_over xor joins_xor (λ s. passes s p) (eqb k n) (area_segments c f)
        ∙ ap (λ b. b && eqb k n) (sym (ap q (omega arith) ∙ h 0 f (omega arith) ∙ odd_is p false (area_segments c f)))

    counts : (b : Bool) → xor (b && eqb k n) (has n (filter q (positions is_area (k + 1) fs))) ≡ has n (cond b (k ∷ filter q (positions is_area (k + 1) fs)) (filter q (positions is_area (k + 1) fs)))
    counts true = either xor joins_xor (eqb k n) (has n (filter q (positions is_area (k + 1) fs))) (λ e. has_below (k + 1) n (filter q (positions is_area (k + 1) fs)) (let same : k ≡ n = eqb-true k n e in omega arith) (rise_filtered q is_area (k + 1) fs))
    counts false = refl

    by_test : (b : Bool) → xor (gather xor (owned_by n p) (cond b (map (side_of k) (area_segments c f)) [])) (has n (filter q (positions is_area (k + 1) fs))) ≡ has n (filter q (cond b (k ∷ positions is_area (k + 1) fs) (positions is_area (k + 1) fs)))
    by_test true = ap (λ b. xor b (has n (filter q (positions is_area (k + 1) fs)))) own ∙ counts (q k)
    by_test false = refl

owned_in : (c : Parts) (p : Point) (n : ℕ) → gather xor (owned_by n p) (sides_in c) ≡ has n (insides c p)
owned_in c p n = owned_from c p n (odd_at c p) 0 c.features (λ i d l. ap (odd_at c p) (omega arith) ∙ odd_found c p i (get_or c.features i d) (slice_get_at c.features i d l))

-- ---- where a side that p is on, or that passes east of p, stands

between_ends : (a b y : ℤ) → is_between a b y ≡ true → (cond (int_le a b) a b ≤ℤ y) × (y ≤ℤ cond (int_le a b) b a)
between_ends a b y e = by_test (int_le a b) e
  where
    by_test : (t : Bool) → cond t (int_le a y && int_le y b) (int_le b y && int_le y a) ≡ true → (cond t a b ≤ℤ y) × (y ≤ℤ cond t b a)
    by_test true e = let p = and_parts (int_le a y) (int_le y b) e in (of_le a y p.0, of_le y b p.1)
    by_test false e = let p = and_parts (int_le b y) (int_le y a) e in (of_le b y p.0, of_le y a p.1)

of_lt : (a b : ℤ) → int_lt a b ≡ true → a <ℤ b
of_lt a b h = grind (arith, ints)

passes_between : (s : Side) (p : Point) → passes s.segment p ≡ true → (int_le (low_of s) p.y ≡ true) × (int_lt p.y (high_of s) ≡ true)
passes_between s p e = ⊎_elim
    (λ (f : falls_east s.segment p ≡ true).
    let w = and_parts (int_le s.segment.b.y p.y && int_lt p.y s.segment.a.y) (int_lt (cross_of p s.segment.a s.segment.b) (pos 0)) f in
    let v = and_parts (int_le s.segment.b.y p.y) (int_lt p.y s.segment.a.y) w.0 in
    let down : int_le s.segment.a.y s.segment.b.y ≡ false = gt_of s.segment.a.y s.segment.b.y (let g = of_le s.segment.b.y p.y v.0 in let l = of_lt p.y s.segment.a.y v.1 in omega (arith, ints)) in
    (ap (λ t. int_le (cond t s.segment.a.y s.segment.b.y) p.y) down ∙ v.0, ap (λ t. int_lt p.y (cond t s.segment.b.y s.segment.a.y)) down ∙ v.1))
    (λ (f : rises_east s.segment p ≡ true).
    let w = and_parts (int_le s.segment.a.y p.y && int_lt p.y s.segment.b.y) (int_lt (pos 0) (cross_of p s.segment.a s.segment.b)) f in
    let v = and_parts (int_le s.segment.a.y p.y) (int_lt p.y s.segment.b.y) w.0 in
    let up : int_le s.segment.a.y s.segment.b.y ≡ true = le_of s.segment.a.y s.segment.b.y (let g = of_le s.segment.a.y p.y v.0 in let l = of_lt p.y s.segment.b.y v.1 in omega (arith, ints)) in
    (ap (λ t. int_le (cond t s.segment.a.y s.segment.b.y) p.y) up ∙ v.0, ap (λ t. int_lt p.y (cond t s.segment.b.y s.segment.a.y)) up ∙ v.1))
    (or_cases (falls_east s.segment p) (rises_east s.segment p) e)

module _ (heights : List ℤ) (p : Point) where
  abbrev crosses : Side → Bool
  crosses s = leb (strip heights (low_of s)) (strip heights p.y) && ltb (strip heights p.y) (strip heights (high_of s))

  abbrev ends_here : Side → Bool
  ends_here s = eqb (strip heights (high_of s)) (strip heights p.y)

  low_there : (s : Side) → HasEnds heights s → Contains heights (low_of s)
  low_there s (a, b) = by_test (int_le s.segment.a.y s.segment.b.y)
    where
      by_test : (t : Bool) → Contains heights (cond t s.segment.a.y s.segment.b.y)
      by_test true = a
      by_test false = b

  high_there : (s : Side) → HasEnds heights s → Contains heights (high_of s)
  high_there s (a, b) = by_test (int_le s.segment.a.y s.segment.b.y)
    where
      by_test : (t : Bool) → Contains heights (cond t s.segment.b.y s.segment.a.y)
      by_test true = b
      by_test false = a

  crosses_by : (s : Side) → HasEnds heights s → int_le (low_of s) p.y ≡ true → int_lt p.y (high_of s) ≡ true → crosses s ≡ true
  crosses_by s h a b = and_from (leb (strip heights (low_of s)) (strip heights p.y)) (ltb (strip heights p.y) (strip heights (high_of s)))
      (low_by_strips heights (low_of s) p.y (low_there s h) ∙ a) (high_by_strips heights (high_of s) p.y (high_there s h) ∙ b)

  on_one_of : (s : Side) → HasEnds heights s → is_on_side p s ≡ or (ends_here s && is_on_side p s) (crosses s && is_on_side p s)
  on_one_of s h = by_test (is_on_side p s) refl
    where
      by_test : (b : Bool) → is_on_side p s ≡ b → b ≡ or (ends_here s && b) (crosses s && b)
      by_test false e = sym (or_from (ends_here s && false) (crosses s && false) (none (ends_here s)) (none (crosses s)))
        where
          none : (t : Bool) → (t && false) ≡ false
          none true = refl
          none false = refl
      by_test true e = by_lt_z p.y (high_of s)
          (λ (l : p.y <ℤ high_of s). sym (or_true (ends_here s) (crosses s) (inr (crosses_by s h (le_of (low_of s) p.y within.0) (lt_of p.y (high_of s) l)))))
          (λ (l : high_of s ≤ℤ p.y). sym (or_true (ends_here s) (crosses s) (inl (same_strip heights (high_of s) p.y (let w = within.1 in omega (arith, ints))))))
        where
          within : (low_of s ≤ℤ p.y) × (p.y ≤ℤ high_of s)
          within =
              let q = and_parts (int_eq (cross_of s.segment.a s.segment.b p) (pos 0)) (is_between s.segment.a.x s.segment.b.x p.x && is_between s.segment.a.y s.segment.b.y p.y) e in
              between_ends s.segment.a.y s.segment.b.y p.y (and_parts (is_between s.segment.a.x s.segment.b.x p.x) (is_between s.segment.a.y s.segment.b.y p.y) q.1).1

          or_true : (x y : Bool) → (x ≡ true) ⊎ (y ≡ true) → or (x && true) (y && true) ≡ true
          or_true true y h = refl
          or_true false true h = refl
          or_true false false (inl f) = absurd (false≢true f)
          or_true false false (inr f) = absurd (false≢true f)

  passes_where_it_crosses : (n : ℕ) (s : Side) → HasEnds heights s → (crosses s && owned_by n p s) ≡ owned_by n p s
  passes_where_it_crosses n s h = by_test (passes s.segment p) refl
    where
      by_test : (b : Bool) → passes s.segment p ≡ b → (crosses s && (b && eqb s.feature n)) ≡ (b && eqb s.feature n)
      by_test true e = let w = passes_between s p e in ap (λ t. t && eqb s.feature n) (crosses_by s h w.0 w.1)
      by_test false e = none (crosses s)
        where
          none : (t : Bool) → (t && false) ≡ false
          none true = refl
          none false = refl

-- ---- the buckets of a chart made ready

-- lists over buckets are what stands in the buckets
same_buckets : (es : List Entry) (limit : ℕ) (ends : List ℕ) (sides : List Side) → AreBuckets es limit ends sides → (ks : List ℕ) → All (λ k. (0 < k) × (k < limit)) ks → flat_map (bucket_at ends sides) ks ≡ flat_map (λ k. bucket k es) ks
same_buckets es limit ends sides b [] h = refl
same_buckets es limit ends sides b (k ∷ ks) h =
    let one = All-head (λ k. (0 < k) × (k < limit)) k ks h in
    ap₂ (λ u v. u ++ v) (b.each k one.0 one.1) (same_buckets es limit ends sides b ks (All-tail (λ k. (0 < k) × (k < limit)) k ks h))

module _ (c : Parts) (p : Point) (heights : List ℤ) (bases : List ℕ) (after : ℕ) (ends : List ℕ) (sides : List Side) (r : IsReady c heights bases after ends sides) where
  abbrev pub way : List ℕ
  way = way_nodes bases (strip heights p.y)

  abbrev top : ℕ
  top = after + strip heights p.y

  strip_within : (y : ℤ) → strip heights y ≤ length heights
  strip_within y = count_by-le-length (λ h. int_le h y) heights

  top_in : (0 < top) × (top < after + length heights + 1)
  top_in = (omega (arith, after_first bases 1 (length heights) after r.split), omega (arith, strip_within p.y))

  way_in : All (λ k. (0 < k) × (k < after + length heights + 1)) way
  way_in = All-weaker (λ k. (1 ≤ k) × (k < after)) (λ k. (0 < k) × (k < after + length heights + 1)) (λ k w. (omega (arith, w.0), omega (arith, w.1))) way (way_within bases 1 (length heights) after (strip heights p.y) r.split (strip_within p.y))

  pub top_has : HasBucket ends sides top
  top_has = r.buckets.has top top_in.0 top_in.1

  pub way_has : All (HasBucket ends sides) way
  way_has = All-weaker (λ k. (0 < k) × (k < after + length heights + 1)) (HasBucket ends sides) (λ k w. r.buckets.has k w.0 w.1) way way_in

  abbrev buckets_in : Side → List ℕ
  buckets_in s = buckets_of bases after (strip heights (low_of s)) (strip heights (high_of s))

  over_way : (op : Bool → Bool → Bool) (j : IsJoin op) (t : Side → Bool) → gather op t (flat_map (bucket_at ends sides) way) ≡ gather op (λ s. crosses heights p s && t s) (sides_in c)
  over_way op j t =
      ap (gather op t) (same_buckets (entries_of heights bases after (sides_in c)) (after + length heights + 1) ends sides r.buckets way way_in)
      ∙ gather_sides op j t way buckets_in (sides_in c)
      ∙ gather_agree op j (λ s. meets op j way (buckets_in s) && t s) (λ s. crosses heights p s && t s) (sides_in c)
      (λ i d l. let s : Side = get_or (sides_in c) i d in ap (λ b. b && t s) (way_meets op j bases 1 (length heights) after (strip heights (low_of s)) (strip heights (high_of s)) (strip heights p.y) r.split (strip_within (high_of s)) (strip_within p.y)))

  over_top : (op : Bool → Bool → Bool) (j : IsJoin op) (t : Side → Bool) → gather op t (bucket_at ends sides top) ≡ gather op (λ s. ends_here heights p s && t s) (sides_in c)
  over_top op j t =
      ap (gather op t) (r.buckets.each top top_in.0 top_in.1 ∙ sym (append-nil (bucket top (entries_of heights bases after (sides_in c)))))
      ∙ gather_sides op j t (top ∷ []) buckets_in (sides_in c)
      ∙ gather_agree op j (λ s. meets op j (top ∷ []) (buckets_in s) && t s) (λ s. ends_here heights p s && t s) (sides_in c)
      (λ i d l. let s : Side = get_or (sides_in c) i d in ap (λ b. b && t s) (height_meets op j bases 1 (length heights) after (strip heights (low_of s)) (strip heights (high_of s)) (strip heights p.y) r.split (strip_within (high_of s))))

  -- p is on an area exactly if it is on a side that ends at its height, or on one that stands on its way
  on_by_buckets : is_on_area c p ≡ or (list_any (is_on_side p) (bucket_at ends sides top)) (gather or (is_on_side p) (flat_map (bucket_at ends sides) way))
  on_by_buckets =
      sym (on_from c p 0 c.features) ∙ any_is (is_on_side p) (sides_in c)
      ∙ gather_agree or joins_or (is_on_side p) (λ s. or (ends_here heights p s && is_on_side p s) (crosses heights p s && is_on_side p s)) (sides_in c) (λ i d l. on_one_of heights p (get_or (sides_in c) i d) (r.strips.ends i d l))
      ∙ gather_both or joins_or (λ s. ends_here heights p s && is_on_side p s) (λ s. crosses heights p s && is_on_side p s) (sides_in c)
      ∙ ap₂ or (sym (over_top or joins_or (is_on_side p)) ∙ sym (any_is (is_on_side p) (bucket_at ends sides top))) (sym (over_way or joins_or (is_on_side p)))

  pub on_top : list_any (is_on_side p) (bucket_at ends sides top) ≡ true → is_on_area c p ≡ true
  on_top e = on_by_buckets ∙ or_left (list_any (is_on_side p) (bucket_at ends sides top)) (gather or (is_on_side p) (flat_map (bucket_at ends sides) way)) e

  pub on_way : gather or (is_on_side p) (flat_map (bucket_at ends sides) way) ≡ true → is_on_area c p ≡ true
  on_way e = on_by_buckets ∙ or_right (list_any (is_on_side p) (bucket_at ends sides top)) (gather or (is_on_side p) (flat_map (bucket_at ends sides) way)) e

  pub on_none : list_any (is_on_side p) (bucket_at ends sides top) ≡ false → gather or (is_on_side p) (flat_map (bucket_at ends sides) way) ≡ false → is_on_area c p ≡ false
  on_none e f = on_by_buckets ∙ or_from (list_any (is_on_side p) (bucket_at ends sides top)) (gather or (is_on_side p) (flat_map (bucket_at ends sides) way)) e f

  -- what is left of a walk along the whole way are the areas that have p inside
  pub found_inside : (inside : List ℕ) → Walks p ends sides way [] inside → inside ≡ insides c p
  found_inside inside w = same_rising 0 inside (insides c p) w.rising (insides_rise c p) (λ n.
      walk_ends p ends sides way inside n w
      ∙ over_way xor joins_xor (owned_by n p)
      ∙ gather_agree xor joins_xor (λ s. crosses heights p s && owned_by n p s) (owned_by n p) (sides_in c) (λ i d l. passes_where_it_crosses heights p n (get_or (sides_in c) i d) (r.strips.ends i d l))
      ∙ owned_in c p n)

-- ---- in the terms of the program

-- what the buckets of a strip tell
pub record Tells (c : Parts) (p : Point) (bases : List ℕ) (after : ℕ) (ends : List ℕ) (sides : List Side) (k : ℕ) : Type 0 where
  pub top : HasBucket ends sides (after + k)
  pub way : All (HasBucket ends sides) (way_nodes bases k)
  pub on_top : list_any (is_on_side p) (bucket_at ends sides (after + k)) ≡ true → is_on_area c p ≡ true
  pub on_way : gather or (is_on_side p) (flat_map (bucket_at ends sides) (way_nodes bases k)) ≡ true → is_on_area c p ≡ true
  pub on_none : list_any (is_on_side p) (bucket_at ends sides (after + k)) ≡ false → gather or (is_on_side p) (flat_map (bucket_at ends sides) (way_nodes bases k)) ≡ false → is_on_area c p ≡ false
  pub found : (inside : List ℕ) → Walks p ends sides (way_nodes bases k) [] inside → inside ≡ insides c p

pub tells : (c seen : Parts) (p : Point) (heights lent : List ℤ) (bases : List ℕ) (after : ℕ) (ends : List ℕ) (sides : List Side) (k : ℕ) (y : ℤ) → c ≡ seen → lent ≡ heights → k ≡ strip lent y → y ≡ p.y → IsReady c heights bases after ends sides → Tells seen p bases after ends sides k
tells c seen p heights lent bases after ends sides k y view e f g r =
    subst (λ t. Tells t p bases after ends sides k) view (subst (Tells c p bases after ends sides) (sym (f ∙ ap₂ strip e g))
    (record {
      top = top_has c p heights bases after ends sides r;
      way = way_has c p heights bases after ends sides r;
      on_top = on_top c p heights bases after ends sides r;
      on_way = on_way c p heights bases after ends sides r;
      on_none = on_none c p heights bases after ends sides r;
      found = found_inside c p heights bases after ends sides r;
    }))

-- one node further on the way
pub way_more : (bases lent : List ℕ) (i k : ℕ) → lent ≡ bases → i < length lent → way_nodes (drop i bases) k ≡ (get_or lent i 0 + k) ∷ way_nodes (drop (i + 1) bases) (k / 2)
way_more bases lent i k e h = at_drop_more (λ bs. way_nodes bs k) bases i 0 (subst (λ t. i < length t) e h) ∙ ap (λ t. (get_or t i 0 + k) ∷ way_nodes (drop (i + 1) bases) (k / 2)) (sym e)

pub way_done : (bases lent : List ℕ) (i k : ℕ) → lent ≡ bases → length lent ≤ i → way_nodes (drop i bases) k ≡ []
way_done bases lent i k e h = at_drop_all (λ bs. way_nodes bs k) bases i (subst (λ t. length t ≤ i) e h)
