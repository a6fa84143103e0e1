-- No strip of the chart of a grid and a sheet is crossed.
use Rattle.std.proofs.Common.{ℤ, arith}
use Rattle.std.proofs.lemmas.Int.{ints}
use Rattle.cell_check.specs.Outlines.{lines}
use Rattle.chart_definitions.specs.ChartOf.{IsChartOf}
use Rattle.chart_model.specs.Lines.{area_segments}
use Rattle.chart_model.specs.declared.records.Parts.{Parts}
use Rattle.depth_grid.specs.Grid.{GridView, IsGrid}
use Rattle.mesh_counts_laws.specs.Counts.{LinesInside}
use Rattle.mesh_definitions.specs.Field.{Field, InCoverage, IsField, field_of}
use Rattle.mesh_definitions.specs.Pieces.{Mesh, whole_mesh}
use Rattle.plane_geom.specs.Segments.{turned}
use Rattle.plane_geom.specs.declared.Point.{Point}
use Rattle.plane_geom.specs.declared.Seg.{Seg}
use Rattle.plane_laws.proofs.Lines.{side_back}
use Rattle.plane_laws.proofs.Members.{In, contains, is_in}
use Rattle.plane_strips.specs.Rational.{IsOnAt, RationalPoint}
use Rattle.plane_strips.specs.StripLaws.{EntersSpans}
use Rattle.plane_strips.specs.Strips.{IsStrip, IsWithin, OneLine, upward}
use Rattle.plane_strips.proofs.Means.{on_first, on_last}
use Rattle.plane_strips.proofs.Scaling.{times_le}
use Rattle.plane_strips.proofs.Sides.{from_upward, on_upward, to_upward}
use Rattle.rule_sheet.specs.Values.{IsSheet, SheetView}
use Rattle.tiling_laws.specs.EdgeLines.{AreasOnEdges, EdgesAreLines}
use Rattle.tiling_laws.specs.Truth.{GridsHaveFields}
use Rattle.check_laws.specs.Checks.{ChartsAreUncrossed}
use Rattle.check_laws.proofs.Crossing.{FieldLaws, IsAmid, meet_on_line}
use Rattle.check_laws.proofs.Right.{covers_are}
use Rattle.check_laws.proofs.Steps.{IsOfFeature, line_drawn, upward_step}

-- segments on one line are so whichever way they are walked
line_turned : (s t : Seg) → OneLine (turned s) t → OneLine s t
line_turned s t h =
    let a = side_back s.b s.a t.a in
    let b = side_back s.b s.a t.b in
    let e = h.first in
    let g = h.second in
    record { first = omega (arith, ints, a, e); second = omega (arith, ints, b, g) }

one_line_upward : (s t : Seg) → OneLine (upward s) (upward t) → OneLine s t
one_line_upward s t h = from_upward (λ u. OneLine s u) t (λ k. record { first = k.second; second = k.first }) (from_upward (λ u. OneLine u (upward t)) s (line_turned s (upward t)) h)

module _ (spans : EntersSpans) (on_edges : AreasOnEdges) (edges : EdgesAreLines) (inside : LinesInside) (fields : GridsHaveFields) (laws : FieldLaws) where
  module _ (g : GridView) (s : SheetView) (c : Parts) (grid : IsGrid g) (sheet : IsSheet s) (is : IsChartOf g s c) where
    abbrev f : Field
    f = field_of is.view s.levels

    abbrev m : Mesh
    m = whole_mesh f is.block

    field : IsField f
    field = fields g s is.view grid sheet is.generalised

    drawn : (t : Seg) → In (lines c) t → IsOfFeature m c t
    drawn t i = line_drawn m c is.face _ (covers_are g s c is) is.areas.outlines (λ k d l. is.coverage.outlines k d (let e = is.coverage.one_each in omega (arith, l, e))) t i

    covered : (t : Seg) → IsOfFeature m c t → (InCoverage f t.a) × (InCoverage f t.b)
    covered t d =
        let at = λ (p : Point) (on : _). inside f is.block field p ((edges m is.traces c is.edges p).0 (on_edges c d.feature p on)) in (
          at t.a (record { segment = t; there = contains (area_segments c d.feature) t d.there; on = on_first t }),
          at t.b (record { segment = t; there = contains (area_segments c d.feature) t d.there; on = on_last t }),
        )

    upward_covered : (t : Seg) → (InCoverage f t.a) × (InCoverage f t.b) → (InCoverage f (upward t).a) × (InCoverage f (upward t).b)
    upward_covered t h = to_upward (λ u. (InCoverage f u.a) × (InCoverage f u.b)) t (λ k. (k.1, k.0)) h

    module _ (lo hi : ℤ) (strip : IsStrip (lines c) lo hi) (q : RationalPoint) (within : IsWithin lo hi q) where
      amid : (t : Seg) → In (lines c) t → IsOnAt t q → IsAmid (upward t) q
      amid t i on =
          let e = spans (lines c) lo hi t q strip (contains (lines c) t i) on within in
          let low = times_le q.w q.positive (upward t).a.y lo e.below in
          let high = times_le q.w q.positive hi (upward t).b.y e.above in
          let a = within.above in
          let b = within.below in
          record { low = omega (arith, ints, low, a); high = omega (arith, ints, high, b); on = on_upward t q on }

      on_one_line : (t u : Seg) → In (lines c) t → In (lines c) u → IsOnAt t q → IsOnAt u q → OneLine t u
      on_one_line t u i j on_t on_u =
          let a = drawn t i in
          let b = drawn u j in
          let ca = upward_covered t (covered t a) in
          let cb = upward_covered u (covered u b) in
          one_line_upward t u (meet_on_line laws f field is.block q (upward t) (upward u) (upward_step m t a.drawn) (upward_step m u b.drawn) (amid t i on_t) (amid u j on_u) ca.0 ca.1 cb.0 cb.1)

  pub charts_are_uncrossed : ChartsAreUncrossed
  charts_are_uncrossed g s c grid sheet is lo hi strip crossed =
      let k = crossed.cross in
      k.apart (on_one_line g s c grid sheet is lo hi strip k.at k.within crossed.one crossed.other (is_in (lines c) crossed.one crossed.one_there) (is_in (lines c) crossed.other crossed.other_there) k.first k.second)
