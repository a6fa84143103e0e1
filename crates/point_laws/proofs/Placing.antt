-- A chart that tells the truth answers for each point with the place where it truly lies.
use Rattle.std.proofs.Common.{◌≡◌, ⊎_elim, ℕ, ◌<◌, true, [], ◌∷◌, filter, length, get_or, sym, ap, subst, ◌∙◌}
use Rattle.std.proofs.lemmas.List.Elements.{Contains-get_or}
use Rattle.mesh_definitions.specs.Faces.{OnLine}
use Rattle.mesh_definitions.specs.Field.{Field, InCoverage, field_of}
use Rattle.mesh_definitions.specs.Mesh.{all_cells}
use Rattle.mesh_definitions.specs.Pieces.{Mesh}
use Rattle.chart_definitions.specs.Areas.{IsAreaOf}
use Rattle.chart_definitions.specs.ChartOf.{IsChartOf, mesh_in}
use Rattle.chart_definitions.specs.SoundEdges.{HasSoundEdges}
use Rattle.chart_definitions.specs.Truth.{IsPlaced, TellsTheTruth}
use Rattle.chart_model.specs.Areas.{IsInside, areas}
use Rattle.chart_model.specs.declared.records.Feature.{Feature}
use Rattle.chart_model.specs.declared.records.Parts.{Parts}
use Rattle.chart_query.proofs.Answering.{determined}
use Rattle.chart_query.specs.Answer.{place_of}
use Rattle.chart_query.specs.Place.{IsOnArea}
use Rattle.chart_query.specs.declared.answer.Place.TheVariants.{Outside, Edge, Areas}
use Rattle.tiling_laws.specs.EdgeLines.{AreasOnEdges}
use Rattle.tiling_laws.specs.SoundEdges.{EdgesOnAreas}
use Rattle.depth_grid.specs.Grid.{GridView}
use Rattle.mesh_laws.specs.PieceLaws.{PiecesOnce}
use Rattle.plane_geom.specs.declared.Point.{Point}
use Rattle.rule_sheet.specs.Values.{SheetView}
use Rattle.point_laws.proofs.Deciding.{on_or_off, within_or_beyond}
use Rattle.point_laws.proofs.Inside.{element, inside_none, inside_one, is_odd, none_kept, one_kept}
use Rattle.point_laws.specs.Places.IsPlaceOf.{OnALine, Beyond, InArea}
use Rattle.point_laws.specs.Places.{IsPlaceOf}

-- in a chart of a mesh edges and areas have the same points
module _ (once : PiecesOnce) (on_edges : AreasOnEdges) (on_areas : EdgesOnAreas) where
  module _ (g : GridView) (s : SheetView) (c : Parts) (is : IsChartOf g s c) (truth : TellsTheTruth g s is.view c) (edges : HasSoundEdges (field_of is.view s.levels) (mesh_in is.view s is.block) is.face c) (p : Point) where
    abbrev f : Field
    f = field_of is.view s.levels

    abbrev m : Mesh
    m = mesh_in is.view s is.block

    -- a point on an area is on a drawn line
    area_on_line : IsOnArea c p → OnLine m p
    area_on_line on = (edges.lines p).0 (on_edges c on.area p on.on)

    -- and a point on a drawn line is on an area
    line_on_area : OnLine m p → IsOnArea c p
    line_on_area on =
        let a = on_areas is.view s.levels m is.traces is.face c (once f (all_cells f) is.block) is.edges is.areas p ((edges.lines p).1 on) in
        record { area = a.0; there = a.1; on = a.2 }

    module _ (off : ¬ (IsOnArea c p)) where
      -- a point on no area is on no line
      off_lines : ¬ (OnLine m p)
      off_lines on = off (line_on_area on)

      -- an area whose segments pass its height east of it an odd number of times has it inside
      odd_inside : (k : ℕ) (d : Feature) → k < length (areas c) → is_odd c p (get_or (areas c) k d) ≡ true → IsInside c (get_or (areas c) k d) p
      odd_inside k d l e = record { off = λ on. off (record { area = get_or (areas c) k d; there = Contains-get_or (areas c) k d l; on = on }); odd = e }

      -- beyond the coverage no area has it inside, and the answer is Outside
      beyond : ¬ (InCoverage f p) → IsPlaceOf f is.view m c p (place_of c p)
      beyond out =
          let none = none_kept (is_odd c p) (areas c) (λ k d l e. truth.tiles.no_area p (get_or (areas c) k d) out (Contains-get_or (areas c) k d l) (odd_inside k d l e)) in
          subst (IsPlaceOf f is.view m c p) (determined c p Outside (off, inside_none c p none)) (Beyond off_lines out)

      -- where it is placed in one area, the answer is the position of that area alone
      placed_at : InCoverage f p → (at : IsPlaced f is.view c p) (a : Feature) → get_or (areas c) at.at a ≡ a → IsPlaceOf f is.view m c p (place_of c p)
      placed_at there at a same =
          let alone : filter (is_odd c p) (areas c) ≡ a ∷ [] =
          one_kept (is_odd c p) (areas c) at.at a at.there (at.inside a).odd (λ k d l e. at.alone k d l (odd_inside k d l e)) ∙ ap (λ z. z ∷ []) same in
          let k = inside_one c p a alone in
          let tells = subst (λ z. IsAreaOf is.view f.levels at.class z) same (at.tells a) in
          subst (IsPlaceOf f is.view m c p) (determined c p (Areas (k.0 ∷ [])) (off, (λ e. absurd (let n = sym k.1 ∙ e in cc (n))), sym k.1)) (InArea off_lines there k.0 a k.2 at.class at.real tells)

      -- so is the answer within the coverage
      within : InCoverage f p → IsPlaceOf f is.view m c p (place_of c p)
      within there =
          let at = truth.tiles.placed p there (λ on. off_lines ((edges.lines p).0 on)) in
          let a = element (areas c) at.at at.there in
          placed_at there at a.0 a.1

    -- the answer is the place where the point truly lies
    pub true_place : IsPlaceOf f is.view m c p (place_of c p)
    true_place = ⊎_elim
        (λ on. subst (IsPlaceOf f is.view m c p) (determined c p Edge on) (OnALine (area_on_line on)))
        (λ off. ⊎_elim (within off) (beyond off) (within_or_beyond f p))
        (on_or_off c p)
