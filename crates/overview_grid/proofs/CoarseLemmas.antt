-- The computed overview of a grid is its overview, and the only one.
use Rattle.std.proofs.Common.{◌≡◌, ◌∙◌, ℕ, ◌+◌, ◌*◌, ◌/◌, ◌%◌, ◌<◌, ◌≤◌, nat_le, ℤ, pos, Bool, true, false, cond, int_lt, List, [], ◌∷◌, ◌++◌, map, filter, length, get_or, Option, Some, None, sym, ap, ap₂, subst, refl, arith}
use Rattle.std.proofs.lemmas.Bool.Decides.{nat_tests}
use Rattle.std.proofs.lemmas.Int.{ints, clamps}
use Rattle.std.proofs.lemmas.List.Elements.{All-append, All-cons, All-filter, All-head, All-map, All-nil, All-tail, All-weaker, filter_passes}
use Rattle.std.proofs.lemmas.List.FromFn.{fill_by_all, get_or-map-range_with_len, get_or-range_with_len, length-map-range_with_len, length-range_with_len}
use Rattle.std.proofs.lemmas.Nat.{rows, div-mul-add, mod-mul-add, div-add-mod', mod_below}
use Rattle.std.specs.Int.{abs_diff}
use Rattle.std.specs.List.{range_with_len}
use Rattle.std.specs.Prelude.{All, flat_map}
use Rattle.depth_grid.specs.Grid.{GridView, IsGrid, depth_at, place}
use Rattle.overview_grid.specs.Coarse.{coarse_depths, coarse_grid, coarse_places, depths_beside, least_depth, within}
use Rattle.overview_grid.specs.Laws.{CoarseGridsAreOverviews, IsFactor, OverviewsAreGrids, OverviewsAreOne}
use Rattle.overview_grid.specs.Least.{IsAsShoal, IsLeastOf, least_of, lesser}
use Rattle.overview_grid.specs.Narrowed.{AreLeastDepths}
use Rattle.overview_grid.specs.Overview.{AreCoarsePlaces, IsOverview, StandsBeside, coarse_count}
use Rattle.overview_grid.proofs.LeastLemmas.{as_shoal_through}
use Rattle.overview_grid.proofs.NarrowLemmas.{least_limited, row_of}
use Rattle.overview_grid.proofs.PlaceLemmas as places

-- ---- the least of depths

lesser_first : (a b : Option ℤ) → IsAsShoal (lesser a b) a
lesser_first None b = tt
lesser_first (Some x) None = tt
lesser_first (Some x) (Some y) = omega (arith, ints, clamps)

lesser_second : (a b : Option ℤ) → IsAsShoal (lesser a b) b
lesser_second None b = tt
lesser_second (Some x) None = tt
lesser_second (Some x) (Some y) = omega (arith, ints, clamps)

-- the lesser of two is one of them
lesser_holds : (P : Option ℤ → Type 0) (a b : Option ℤ) → P a → P b → P (lesser a b)
lesser_holds P None b p q = p
lesser_holds P (Some x) None p q = q
lesser_holds P (Some x) (Some y) p q = by (int_lt y x)
  where
    by : (c : Bool) → P (Some (cond c y x))
    by true = q
    by false = p

-- and the least of several is one of them
least_holds : (P : Option ℤ → Type 0) (d : Option ℤ) (ds : List (Option ℤ)) → P d → All P ds → P (least_of d ds)
least_holds P d [] p all = p
least_holds P d (e ∷ ds) p all = least_holds P (lesser d e) ds (lesser_holds P d e p (All-head P e ds all)) (All-tail P e ds all)

as_itself : (d : Option ℤ) → IsAsShoal d d
as_itself None = tt
as_itself (Some x) = omega (arith, ints)

least_of_all : (d : Option ℤ) (ds : List (Option ℤ)) → IsAsShoal (least_of d ds) d × All (IsAsShoal (least_of d ds)) ds
least_of_all d [] = (as_itself d, All-nil (IsAsShoal d))
least_of_all d (e ∷ ds) =
    let r = least_of (lesser d e) ds in
    let h = least_of_all (lesser d e) ds in
    (as_shoal_through r (lesser d e) d h.0 (lesser_first d e), All-cons (IsAsShoal r) e ds (as_shoal_through r (lesser d e) e h.0 (lesser_second d e)) h.1)

-- two least ones of the same depths are one
same_least : (P : Option ℤ → Type 0) (r s : Option ℤ) → IsLeastOf P r → IsLeastOf P s → r ≡ s
same_least P r s h k = same r s (h.least s k.stands) (k.least r h.stands)
  where
    same : (a b : Option ℤ) → IsAsShoal a b → IsAsShoal b a → a ≡ b
    same None None h k = refl
    same None (Some y) h k = absurd k
    same (Some x) None h k = absurd h
    same (Some x) (Some y) h k = let e : x ≡ y = omega (arith, ints, h, k) in ap Some e

-- ---- what holds of all in a list

module _ {X : Type 0} (P : X → Type 0) where
  all_left : (xs ys : List X) → All P (xs ++ ys) → All P xs
  all_left [] ys h = All-nil P
  all_left (x ∷ xs) ys h = All-cons P x xs (All-head P x (xs ++ ys) h) (all_left xs ys (All-tail P x (xs ++ ys) h))

  all_right : (xs ys : List X) → All P (xs ++ ys) → All P ys
  all_right [] ys h = h
  all_right (x ∷ xs) ys h = all_right xs ys (All-tail P x (xs ++ ys) h)

  all_flat : (f : ℕ → List X) (ns : List ℕ) → All (λ n. All P (f n)) ns → All P (flat_map f ns)
  all_flat f [] h = All-nil P
  all_flat f (n ∷ ns) h = All-append P (f n) (flat_map f ns) (All-head (λ n. All P (f n)) n ns h) (all_flat f ns (All-tail (λ n. All P (f n)) n ns h))

  each_flat : (f : ℕ → List X) (ns : List ℕ) → All P (flat_map f ns) → All (λ n. All P (f n)) ns
  each_flat f [] h = All-nil (λ n. All P (f n))
  each_flat f (n ∷ ns) h = All-cons (λ n. All P (f n)) n ns (all_left (f n) (flat_map f ns) h) (each_flat f ns (all_right (f n) (flat_map f ns) h))

  each_mapped : (f : ℕ → X) (ns : List ℕ) → All P (map f ns) → All (λ n. P (f n)) ns
  each_mapped f [] h = All-nil (λ n. P (f n))
  each_mapped f (n ∷ ns) h = All-cons (λ n. P (f n)) n ns (All-head P (f n) (map f ns) h) (each_mapped f ns (All-tail P (f n) (map f ns) h))

-- what holds of all that a filter keeps holds of each that passes
each_kept : (P : ℕ → Type 0) (p : ℕ → Bool) (ns : List ℕ) → All P (filter p ns) → All (λ n. p n ≡ true → P n) ns
each_kept P p [] h = All-nil (λ n. p n ≡ true → P n)
each_kept P p (n ∷ ns) h = by (p n) refl h (each_kept P p ns)
  where
    by : (b : Bool) → p n ≡ b → All P (cond b (n ∷ filter p ns) (filter p ns)) → (All P (filter p ns) → All (λ n. p n ≡ true → P n) ns) → All (λ n. p n ≡ true → P n) (n ∷ ns)
    by true e g rest = All-cons (λ n. p n ≡ true → P n) n ns (λ t. All-head P n (filter p ns) g) (rest (All-tail P n (filter p ns) g))
    by false e g rest = All-cons (λ n. p n ≡ true → P n) n ns (λ t. absurd (cc (t, e))) (rest g)

-- ---- neighbourhoods

below_end : (count : ℕ) → All (λ i. i < count) (range_with_len 0 count)
below_end count k d l =
    let b : k < count = omega (arith, l, length-range_with_len 0 count) in
    subst (λ z. z < count) (sym (get_or-range_with_len 0 count k d b)) (omega (arith, b))

each_below : (P : ℕ → Type 0) (count i : ℕ) → All P (range_with_len 0 count) → i < count → P i
each_below P count i h l =
    let e : 0 + i ≡ i = omega arith in
    subst P (get_or-range_with_len 0 count i 0 l ∙ e) (h i 0 (omega (arith, l, length-range_with_len 0 count)))

test_le : (m n : ℕ) → m ≤ n → nat_le m n ≡ true
test_le m n h = grind (arith, nat_tests)

le_test : (m n : ℕ) → nat_le m n ≡ true → m ≤ n
le_test m n h = grind (arith, nat_tests)

module _ (factor count k : ℕ) where
  abbrev near : ℕ → Bool
  near i = nat_le (abs_diff i k) factor

  within_are : All (λ i. (i < count) × (abs_diff i k ≤ factor)) (within factor count k)
  within_are at d l = (
    All-filter near (λ i. i < count) (range_with_len 0 count) (below_end count) at d l,
    le_test (abs_diff (get_or (within factor count k) at d) k) factor (filter_passes near (range_with_len 0 count) at d l),
  )

  within_each : (P : ℕ → Type 0) (i : ℕ) → All P (within factor count k) → i < count → abs_diff i k ≤ factor → P i
  within_each P i h l away = each_below (λ n. near n ≡ true → P n) count i (each_kept P near (range_with_len 0 count) h) l (test_le (abs_diff i k) factor away)

module _ (g : GridView) (factor row col : ℕ) (row_in : row < length g.ys) (col_in : col < length g.xs) where
  abbrev Beside : Option ℤ → Type 0
  Beside = StandsBeside g factor row col

  all_beside : All Beside (depths_beside g factor row col)
  all_beside =
      let cols = within factor (length g.xs) col in
      let rows = within factor (length g.ys) row in
      all_flat Beside (λ i. map (depth_at g i) cols) rows
      (All-weaker (λ i. (i < length g.ys) × (abs_diff i row ≤ factor)) (λ i. All Beside (map (depth_at g i) cols))
      (λ i h. All-map Beside (depth_at g i) cols
      (All-weaker (λ j. (j < length g.xs) × (abs_diff j col ≤ factor)) (λ j. Beside (depth_at g i j))
      (λ j m. record { at_row = i; at_col = j; row_in = h.0; col_in = m.0; rows_away = h.1; cols_away = m.1; stands = refl })
      cols (within_are factor (length g.xs) col)))
      rows (within_are factor (length g.ys) row))

  away_none : (n : ℕ) → abs_diff n n ≤ factor
  away_none n = omega arith

  -- the computed depth is the least one
  least_is : IsLeastOf Beside (least_depth g factor row col)
  least_is =
      let r = least_depth g factor row col in
      let cols = within factor (length g.xs) col in
      let own : Beside (depth_at g row col) = record { at_row = row; at_col = col; row_in = row_in; col_in = col_in; rows_away = away_none row; cols_away = away_none col; stands = refl } in
      let all = (least_of_all (depth_at g row col) (depths_beside g factor row col)).1 in
      record {
        stands = least_holds Beside (depth_at g row col) (depths_beside g factor row col) own all_beside;
        least = λ d s. subst (IsAsShoal r) s.stands
            (within_each factor (length g.xs) col (λ j. IsAsShoal r (depth_at g s.at_row j)) s.at_col
            (each_mapped (IsAsShoal r) (depth_at g s.at_row) cols
            (within_each factor (length g.ys) row (λ i. All (IsAsShoal r) (map (depth_at g i) cols)) s.at_row
            (each_flat (IsAsShoal r) (λ i. map (depth_at g i) cols) (within factor (length g.ys) row) all) s.row_in s.rows_away))
            s.col_in s.cols_away);
      }

-- ---- grids

placed : (col count row n : ℕ) → col < count → row < n → row * count + col < n * count
placed col count row n h k = grind (arith, rows)

module _ (g : GridView) (factor : ℕ) (f : IsFactor g factor) where
  abbrev rows_of : ℕ
  rows_of = coarse_count (length g.ys) factor

  abbrev cols_of : ℕ
  cols_of = coarse_count (length g.xs) factor

  row_inside : (row : ℕ) → row < rows_of → factor * row < length g.ys
  row_inside row l = let h = f.rows in places.coarse_inside (length g.ys) factor row (omega (arith, h)) l

  col_inside : (col : ℕ) → col < cols_of → factor * col < length g.xs
  col_inside col l = let h = f.columns in places.coarse_inside (length g.xs) factor col (omega (arith, h)) l

  places_are : (zs : List ℤ) → AreCoarsePlaces zs factor (coarse_places factor zs)
  places_are zs =
      let at = λ (k : ℕ). place zs (factor * k) in
      let n = coarse_count (length zs) factor in
      record {
        full = length-map-range_with_len at 0 n;
        each = λ k l. let b : k < n = omega (arith, l, length-map-range_with_len at 0 n) in get_or-map-range_with_len at 0 n k k (pos 0) b (omega arith);
      }

  least_at : (row col : ℕ) → row < rows_of → col < cols_of → IsLeastOf (StandsBeside g factor (factor * row) (factor * col)) (get_or (coarse_depths g factor) (row * cols_of + col) None)
  least_at row col l m =
      let of_node = λ (k : ℕ). least_depth g factor (factor * (k / cols_of)) (factor * (k % cols_of)) in
      let k = row * cols_of + col in
      let inside : k < rows_of * cols_of = placed col cols_of row rows_of m l in
      let value : get_or (coarse_depths g factor) k None ≡ of_node k = get_or-map-range_with_len of_node 0 (rows_of * cols_of) k k None inside (omega arith) in
      let same : of_node k ≡ least_depth g factor (factor * row) (factor * col) = ap₂ (λ i j. least_depth g factor (factor * i) (factor * j)) (div-mul-add row cols_of col m) (mod-mul-add row cols_of col m) in
      subst (IsLeastOf (StandsBeside g factor (factor * row) (factor * col))) (sym (value ∙ same)) (least_is g factor (factor * row) (factor * col) (row_inside row l) (col_inside col m))

  least_depths : AreLeastDepths g factor (coarse_depths g factor)
  least_depths = record { full = length-map-range_with_len (λ k. least_depth g factor (factor * (k / cols_of)) (factor * (k % cols_of))) 0 (rows_of * cols_of); each = least_at }

  is_overview : IsOverview g factor (coarse_grid g factor)
  is_overview =
      let xs = places_are g.xs in
      let ys = places_are g.ys in
      record {
        columns = xs;
        rows = ys;
        full = least_depths.full ∙ sym (ap₂ (λ a b. a * b) ys.full xs.full);
        depths = λ row col l m. subst (λ n. IsLeastOf (StandsBeside g factor (factor * row) (factor * col)) (get_or (coarse_depths g factor) (row * n + col) None)) (sym xs.full)
            (least_at row col (subst (λ n. row < n) ys.full l) (subst (λ n. col < n) xs.full m));
      }

  module _ (c : GridView) (o : IsOverview g factor c) where
    same_places : (zs coarse : List ℤ) → AreCoarsePlaces zs factor coarse → coarse ≡ coarse_places factor zs
    same_places zs coarse h = fill_by_all (λ k. place zs (factor * k)) coarse (coarse_count (length zs) factor) (pos 0) h.full (λ k l. h.each k (subst (λ n. k < n) (sym h.full) l))

    -- each depth is the computed one
    same_depth : (k : ℕ) → k < rows_of * cols_of → get_or c.depths k None ≡ least_depth g factor (factor * (k / cols_of)) (factor * (k % cols_of))
    same_depth k l =
        let some : 0 < cols_of = omega arith in
        let row : k / cols_of < rows_of = row_of k rows_of cols_of some l in
        let col : k % cols_of < cols_of = mod_below k cols_of some in
        let i = k / cols_of in
        let j = k % cols_of in
        let least = o.depths i j (subst (λ n. i < n) (sym o.rows.full) row) (subst (λ n. j < n) (sym o.columns.full) col) in
        let at : get_or c.depths (i * length c.xs + j) None ≡ get_or c.depths k None = ap (λ n. get_or c.depths (i * n + j) None) o.columns.full ∙ ap (λ n. get_or c.depths n None) (div-add-mod' k cols_of) in
        sym at ∙ same_least (StandsBeside g factor (factor * i) (factor * j)) _ _ least (least_is g factor (factor * i) (factor * j) (row_inside i row) (col_inside j col))

    same_depths : c.depths ≡ coarse_depths g factor
    same_depths = fill_by_all (λ k. least_depth g factor (factor * (k / cols_of)) (factor * (k % cols_of))) c.depths (rows_of * cols_of) None (o.full ∙ ap₂ (λ a b. a * b) o.rows.full o.columns.full) same_depth

    is_one : c ≡ coarse_grid g factor
    is_one = joined c.xs c.ys c.depths (same_places g.xs c.xs o.columns) (same_places g.ys c.ys o.rows) same_depths
      where
        joined : (xs ys : List ℤ) (ds : List (Option ℤ)) → xs ≡ coarse_places factor g.xs → ys ≡ coarse_places factor g.ys → ds ≡ coarse_depths g factor →
            (let v : GridView = record { xs = xs; ys = ys; depths = ds } in v ≡ coarse_grid g factor)
        joined xs ys ds ex ey ed = cc

    grid_of : IsGrid g → IsGrid c
    grid_of h =
        let least : AreLeastDepths g factor c.depths = record {
          full = o.full ∙ ap₂ (λ a b. a * b) o.rows.full o.columns.full;
          each = λ row col l m. subst (λ n. IsLeastOf (StandsBeside g factor (factor * row) (factor * col)) (get_or c.depths (row * n + col) None)) o.columns.full
              (o.depths row col (subst (λ n. row < n) (sym o.rows.full) l) (subst (λ n. col < n) (sym o.columns.full) m));
        } in
        record {
          columns = places.coarse_places g.xs c.xs factor 1800000000 f.some f.columns o.columns h.columns;
          rows = places.coarse_places g.ys c.ys factor 900000000 f.some f.rows o.rows h.rows;
          eastwards = places.coarse_rises g.xs c.xs factor 1800000000 f.some f.columns o.columns h.eastwards;
          southwards = places.coarse_falls g.ys c.ys factor 900000000 f.some f.rows o.rows h.southwards;
          full = o.full;
          limited = least_limited g factor c.depths h.limited least;
        }

pub coarse_grids_are_overviews : CoarseGridsAreOverviews
coarse_grids_are_overviews g factor f = is_overview g factor f

pub overviews_are_one : OverviewsAreOne
overviews_are_one g c factor f o = is_one g factor f c o

pub overviews_are_grids : OverviewsAreGrids
overviews_are_grids g c factor h f o = grid_of g factor f c o h
