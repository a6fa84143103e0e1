-- The chart of the overview of a grid states no more water than the grid.
use Rattle.std.proofs.Common.{◌≡◌, ◌∙◌, ℕ, zero, suc, ◌+◌, ◌-◌, ◌*◌, ◌<◌, ◌≤◌, ℤ, pos, ◌*ℤ◌, ◌<ℤ◌, ◌≤ℤ◌, int_le, Bool, true, false, cond, Option, Some, None, List, [], ◌∷◌, get_or, length, flat_map, Contains, FitsSigned, refl, sym, ap, ap₂, subst, arith}
use Rattle.std.proofs.lemmas.Int.{ints}
use Rattle.std.proofs.lemmas.List.Elements.{All-weaker}
use Rattle.std.proofs.lemmas.List.Sums.{count_by-le-length}
use Rattle.std.specs.Int.{abs_diff, w32}
use Rattle.std.specs.Prelude.{All, is_some, unwrap_or}
use Rattle.chart_definitions.specs.Areas.{IsAreaOf, IsDepthArea}
use Rattle.chart_definitions.specs.ChartOf.{IsChartOf}
use Rattle.chart_definitions.specs.Laws.{KindsDiffer, OneRange}
use Rattle.chart_definitions.specs.Truth.{IsNoDeeper}
use Rattle.chart_model.specs.Areas.{areas}
use Rattle.chart_model.specs.Tally.{soundings_of}
use Rattle.chart_model.specs.declared.records.Feature.{Feature}
use Rattle.chart_model.specs.declared.records.Parts.{Parts}
use Rattle.chart_model.specs.declared.records.Sounding.{Sounding}
use Rattle.depth_grid.specs.Grid.{GridView, IsGrid, depth_at, place}
use Rattle.depth_grid.specs.declared.node.NodeId.{NodeId}
use Rattle.depth_rounding.specs.Bands.{band_of, level_at, shoaler_end}
use Rattle.mesh_counts_laws.specs.Counts.{PiecesInTriangles}
use Rattle.mesh_definitions.specs.Field.{Field, IsField, band_at, field_of}
use Rattle.mesh_definitions.specs.Laws.{CountsOverPieces, SamePiece, WalksBothWays}
use Rattle.mesh_definitions.specs.Mesh.{all_cells, corners, surveyed}
use Rattle.mesh_definitions.specs.Pieces.{Mesh, greatest_band, least_band, span, whole_mesh}
use Rattle.mesh_definitions.specs.Ranges.{IsRange}
use Rattle.mesh_definitions.specs.declared.Class.TheVariants.{Unsurveyed, Band}
use Rattle.mesh_definitions.specs.declared.Piece.{Piece}
use Rattle.mesh_definitions.specs.declared.Step.{Step}
use Rattle.mesh_laws.proofs.Listed.{piece_there}
use Rattle.mesh_laws.proofs.Once.{all_pass}
use Rattle.mesh_laws.proofs.Places.{in_range_low, in_range_high}
use Rattle.mesh_laws.specs.PieceLaws.{PiecesOnce}
use Rattle.overview_grid.proofs.PlaceLemmas.{coarse_inside}
use Rattle.overview_grid.specs.Laws.{IsFactor, OverviewsAreGrids}
use Rattle.overview_grid.specs.Least.{IsAsShoal, IsLeastOf}
use Rattle.overview_grid.specs.Overview.{IsOverview, StandsBeside}
use Rattle.overview_laws.proofs.Cells.{corner_at}
use Rattle.overview_laws.proofs.Corners.{corner_as_shoal, deep_corner}
use Rattle.overview_laws.proofs.Touched.{HasPiece, has_piece}
use Rattle.overview_laws.specs.StaysShoal.{HasPoint, IsShoalestBeside, NoDeeperThanNodes, NoDepthAtGaps, OverviewsStayShoal, node_point}
use Rattle.plane_geom.specs.declared.Point.{Point}
use Rattle.plane_laws.proofs.Members.{In, is_in}
use Rattle.plane_laws.specs.CountLaws.{CountsInAnyOrder, EvenCount}
use Rattle.plane_laws.specs.SumLaws.{BoundarySum}
use Rattle.rule_sheet.specs.Values.{SheetView, IsSheet}
use Rattle.shoal_buffer.proofs.ChartedLemmas.{are_charted}
use Rattle.shoal_buffer.specs.Charted.{AreCharted, AreOpened, ChartedView, StandsIn}
use Rattle.tiling_laws.proofs.Depths.{soundings_no_deeper}
use Rattle.tiling_laws.proofs.Levels.{end_fits, reached}
use Rattle.tiling_laws.proofs.Opened.{charted_within}
use Rattle.tiling_laws.proofs.Whole.{field_of_grid}

some_of : {X : Type 0} (o : Option X) → is_some o ≡ true → (x : X) × (o ≡ Some x)
some_of None e = absurd (cc (e))
some_of (Some x) e = (x, refl)

-- the shoaler end of a band up to a depth's is no deeper than the depth
end_no_deeper : (levels : List ℤ) (least x : ℤ) (b : ℕ) → ((i k : ℕ) → i < k → k < length levels → level_at levels i <ℤ level_at levels k) → least ≤ℤ x → b ≤ band_of levels x → shoaler_end levels least b ≤ℤ x
end_no_deeper levels least x zero rise low l = low
end_no_deeper levels least x (suc b) rise low l = reached levels x rise b (omega (arith, l))

-- a depth that is as shoal as one that is there
shoal_some : (d : ℤ) (e : Option ℤ) → IsAsShoal (Some d) e → (x : ℤ) × (e ≡ Some x) × (d ≤ℤ x)
shoal_some d None h = absurd h
shoal_some d (Some x) h = (x, refl, h)

module _ (sum : BoundarySum Step Piece) (ways : WalksBothWays) (same : SamePiece) (inside : PiecesInTriangles) (order : CountsInAnyOrder) (even : EvenCount) (over : CountsOverPieces) (once : PiecesOnce) (one_range : OneRange) (kinds : KindsDiffer) (grids : OverviewsAreGrids) where
  module _ (fine coarse : GridView) (factor : ℕ) (s : SheetView) (c : Parts) (grid : IsGrid fine) (sheet : IsSheet s) (fits : IsFactor fine factor) (o : IsOverview fine factor coarse) (is : IsChartOf coarse s c) where
    abbrev v : ChartedView
    v = is.view

    abbrev f : Field
    f = field_of v s.levels

    abbrev m : Mesh
    m = whole_mesh f is.block

    coarse_is : IsGrid coarse
    coarse_is = grids fine coarse factor grid fits o

    own_grid : IsGrid v.grid
    own_grid = subst IsGrid (sym is.generalised.grid) coarse_is

    own : IsOverview fine factor v.grid
    own = subst (IsOverview fine factor) (sym is.generalised.grid) o

    field : IsField f
    field = field_of_grid coarse s v coarse_is sheet is.generalised

    charted : AreCharted v.grid.depths v.opened v.charted
    charted =
        let several = own_grid.columns.several in
        let opened : AreOpened v.grid s.aspect s.disc_radius v.opened = subst (λ g. AreOpened g s.aspect s.disc_radius v.opened) (sym is.generalised.grid) is.generalised.opened in
        are_charted v.grid s.aspect s.disc_radius own_grid.full (omega (arith, several)) v.opened opened s.step_from s.steps v.charted is.generalised.charted

    -- a node with a charted depth has a depth that is no shoaler
    record HasDepths (n : NodeId) : Type 0 where
      x : ℤ
      depth : f.depth n ≡ Some x
      d : ℤ
      source : depth_at v.grid n.row n.col ≡ Some d
      no_deeper : (pos 100 *ℤ x) ≤ℤ d

    has_depths : (n : NodeId) → is_some (f.depth n) ≡ true → HasDepths n
    has_depths n e =
        let k = n.row * length v.grid.xs + n.col in
        let x = some_of (get_or v.charted k None) e in
        let d = some_of (get_or v.grid.depths k None) (sym (charted.charted_data k) ∙ e) in
        let g = some_of (get_or v.opened k None) (charted.opened_data k ∙ (sym (charted.charted_data k) ∙ e)) in
        let first = charted.shoal k g.0 x.0 g.1 x.1 in
        let second = charted.no_deeper k d.0 g.0 d.1 g.1 in
        record { x = x.0; depth = x.1; d = d.0; source = d.1; no_deeper = omega (arith, ints, first, second) }

    band_is : (n : NodeId) (h : HasDepths n) → band_at f n ≡ band_of s.levels h.x
    band_is n h = ap (λ z. band_of s.levels (unwrap_or z (pos 0))) h.depth

    by_depth : (n : NodeId) (h : HasDepths n) (d : Option ℤ) → IsAsShoal (depth_at v.grid n.row n.col) d → IsAsShoal (Some h.d) d
    by_depth n h d shoal = subst (λ z. IsAsShoal z d) h.source shoal

    -- ---- areas

    abbrev Its : ℕ → NodeId → Type 0
    Its k n = HasPiece sum ways same inside order even over f field is.block v s.levels is.face c (once f (all_cells f) is.block) is.areas k (node_point fine n)

    its_piece : (n : NodeId) (a : Feature) (i : Contains (areas c) a) → HasPoint c a (node_point fine n) → Its i.0 n
    its_piece n a i has = has_piece sum ways same inside order even over f field is.block v s.levels is.face c (once f (all_cells f) is.block) is.areas (node_point fine n) a i has

    its_area : (n : NodeId) (a : Feature) (i : Contains (areas c) a) (q : Its i.0 n) → IsAreaOf v s.levels (m.class q.piece) a
    its_area n a i q = subst (IsAreaOf v s.levels (m.class q.piece)) i.2 (subst (λ k. IsAreaOf v s.levels (m.class q.piece) (get_or (areas c) k a)) q.of_face (is.areas.classes q.piece a q.there))

    -- where its triangle is surveyed, the band is at most that of a corner, which is charted as shoal as the node or shoaler
    record DeepCorner (n : NodeId) (b : ℕ) : Type 0 where
      corner : NodeId
      depths : HasDepths corner
      deep : b ≤ band_of s.levels depths.x
      shoal : IsAsShoal (Some depths.d) (depth_at fine n.row n.col)

    corner_of : (n : NodeId) → n.row < length fine.ys → n.col < length fine.xs → (k : ℕ) (q : Its k n) → surveyed f q.piece.tri ≡ true → DeepCorner n q.piece.band
    corner_of n row_in col_in k q known =
        let t = q.piece.tri in
        let there = piece_there f (all_cells f) q.piece (is_in m.pieces q.piece q.there) in
        let south = there.0.south in
        let east = there.0.east in
        let i : In (span (least_band f t) (greatest_band f t)) q.piece.band = subst (λ x. In (cond x (span (least_band f t) (greatest_band f t)) (0 ∷ [])) q.piece.band) known there.1 in
        let low = in_range_low (least_band f t) (greatest_band f t + 1 - least_band f t) q.piece.band i in
        let high = in_range_high (least_band f t) (greatest_band f t + 1 - least_band f t) q.piece.band i in
        let u = deep_corner f t q.piece.band (omega (arith, low, high)) in
        let depths = has_depths u.0 (all_pass (λ z. is_some (f.depth z)) (corners t) u.0 known u.1) in
        let band = band_is u.0 depths in
        let shoal = corner_as_shoal fine factor grid fits v s.levels own n row_in col_in t.row t.col (omega (arith, south)) (omega (arith, east)) q.in_cell u.0 (corner_at t u.0 u.1) in
        record { corner = u.0; depths = depths; deep = (let l = u.2 in omega (arith, l, band)); shoal = by_depth u.0 depths (depth_at fine n.row n.col) shoal }

    -- what an area of a band tells is no deeper than a charted depth whose band is as deep
    area_no_deeper : (b : ℕ) (x low high : ℤ) (a : Feature) → StandsIn v.charted x → b ≤ band_of s.levels x → IsAreaOf v s.levels (Band b) a → IsDepthArea low high a → FitsSigned w32 low → low ≤ℤ x
    area_no_deeper b x low high a stands deep area told signed =
        let range : IsRange v s.levels b area.0 area.1 = area.2 in
        let bounds = charted_within s.step_from s.steps v.opened v.charted range.least is.generalised.charted range.extent.0.stands in
        let least : range.least ≤ℤ x = range.extent.0.least x stands in
        let small : b < length s.levels + 1 = omega (arith, deep, count_by-le-length (λ l. int_le l x) s.levels) in
        let end : FitsSigned w32 area.0 = subst (FitsSigned w32) (sym range.from) (end_fits s.levels range.least b sheet.levels small bounds.0 bounds.1) in
        let one : low ≡ area.0 = (one_range low high area.0 area.1 a told area.3).0 signed end in
        subst (λ z. z ≤ℤ x) (sym (one ∙ range.from)) (end_no_deeper s.levels range.least x b sheet.levels.rising least deep)

    nodes : NoDeeperThanNodes fine c
    nodes n d a low high source i told signed has = by (surveyed f q.piece.tri) refl (its_area n a i q)
      where
        q : Its i.0 n
        q = its_piece n a i has

        by : (x : Bool) → surveyed f q.piece.tri ≡ x → IsAreaOf v s.levels (cond x (Band q.piece.band) Unsurveyed) a → (pos 100 *ℤ low) ≤ℤ d
        by true known area =
            let u = corner_of n source.row_in source.col_in i.0 q known in
            let k = u.depths in
            let shoal : k.d ≤ℤ d = subst (IsAsShoal (Some k.d)) source.depth u.shoal in
            let least = area_no_deeper q.piece.band k.x low high a (u.corner.row * length v.grid.xs + u.corner.col, k.depth) u.deep area told signed in
            let deep = k.no_deeper in
            omega (arith, ints, shoal, least, deep)
        by false known area = absurd (kinds low high a told area)

    gaps : NoDepthAtGaps fine c
    gaps n a gap i has = by (surveyed f q.piece.tri) refl (its_area n a i q)
      where
        q : Its i.0 n
        q = its_piece n a i has

        by : (x : Bool) → surveyed f q.piece.tri ≡ x → IsAreaOf v s.levels (cond x (Band q.piece.band) Unsurveyed) a → a.objl ≡ 42 → ⊥
        by true known area e =
            let u = corner_of n gap.row_in gap.col_in i.0 q known in
            absurd (subst (IsAsShoal (Some u.depths.d)) gap.none u.shoal)
        by false known area e = let k = area.code in omega (arith, e, k)

    -- ---- soundings

    sounding : (z : Sounding) → IsNoDeeper coarse f z → IsShoalestBeside fine factor z
    sounding z h =
        let n = h.node in
        let row_in = h.source.row_in in
        let col_in = h.source.col_in in
        let rows = fits.rows in
        let cols = fits.columns in
        let row : factor * n.row < length fine.ys = coarse_inside (length fine.ys) factor n.row (omega (arith, rows)) (subst (λ k. n.row < k) o.rows.full row_in) in
        let col : factor * n.col < length fine.xs = coarse_inside (length fine.xs) factor n.col (omega (arith, cols)) (subst (λ k. n.col < k) o.columns.full col_in) in
        let least : IsLeastOf (StandsBeside fine factor (factor * n.row) (factor * n.col)) (Some h.found) = subst (IsLeastOf (StandsBeside fine factor (factor * n.row) (factor * n.col))) h.source.depth (o.depths n.row n.col row_in col_in) in
        let beside : (d : Option ℤ) → StandsBeside fine factor (factor * n.row) (factor * n.col) d → (x : ℤ) × (d ≡ Some x) × ((pos 100 *ℤ z.depth) ≤ℤ x) =
        λ d stands. (let x = shoal_some h.found d (least.least d stands) in let deep = h.no_deeper in let more = x.2 in (x.0, x.1, omega (arith, ints, deep, more))) in
        let here = beside (depth_at fine (factor * n.row) (factor * n.col)) (record { at_row = factor * n.row; at_col = factor * n.col; row_in = row; col_in = col; rows_away = none_away (factor * n.row); cols_away = none_away (factor * n.col); stands = refl }) in
        let grid_x : place v.grid.xs n.col ≡ place fine.xs (factor * n.col) = own.columns.each n.col (subst (λ g. n.col < length g.xs) (sym is.generalised.grid) col_in) in
        let grid_y : place v.grid.ys n.row ≡ place fine.ys (factor * n.row) = own.rows.each n.row (subst (λ g. n.row < length g.ys) (sym is.generalised.grid) row_in) in
        record {
          node = record { row = factor * n.row; col = factor * n.col };
          found = here.0;
          source = record { row_in = row; col_in = col; depth = here.1 };
          stands = h.stands ∙ ap₂ (λ x y. let p : Point = record { x = x; y = y } in p) grid_x grid_y;
          no_deeper = beside;
        }
      where
        none_away : (k : ℕ) → abs_diff k k ≤ factor
        none_away k = omega arith

    soundings : All (IsShoalestBeside fine factor) (flat_map soundings_of c.isolated)
    soundings = All-weaker (IsNoDeeper coarse f) (IsShoalestBeside fine factor) sounding (flat_map soundings_of c.isolated) (soundings_no_deeper coarse s v c is.generalised is.soundings)

  pub overviews_stay_shoal : OverviewsStayShoal
  overviews_stay_shoal fine coarse factor s c grid sheet fits o is = record {
    nodes = nodes fine coarse factor s c grid sheet fits o is;
    gaps = gaps fine coarse factor s c grid sheet fits o is;
    soundings = soundings fine coarse factor s c grid sheet fits o is;
  }
