-- What a chart says of a point is what its grid and sheet say.
use Rattle.std.proofs.Common.{◌≡◌, ℕ, ℤ, Some, List, [], ◌∷◌, refl, sym, subst}
use Rattle.std.specs.List.{slice_get}
use Rattle.mesh_definitions.specs.Blocks.{AreByNeed}
use Rattle.mesh_definitions.specs.Faces.{OnLine}
use Rattle.mesh_definitions.specs.Field.{Field, InCoverage, IsField, field_of}
use Rattle.mesh_definitions.specs.Ground.{IsGround}
use Rattle.mesh_definitions.specs.Pieces.{whole_mesh}
use Rattle.mesh_definitions.specs.declared.Class.TheVariants as class
use Rattle.mesh_definitions.specs.declared.Class.{Class}
use Rattle.chart_ground.specs.Answers.{HasDepths, IsAnswer}
use Rattle.chart_ground.specs.declared.answer.GroundAt.TheVariants.{Outside, Edge, Depth, Unsurveyed}
use Rattle.chart_ground.specs.declared.answer.GroundAt.{GroundAt}
use Rattle.chart_definitions.specs.Areas.{IsAreaOf, IsDepthArea}
use Rattle.chart_model.specs.declared.records.Feature.{Feature}
use Rattle.chart_model.specs.declared.records.Parts.{Parts}
use Rattle.chart_query.specs.Answer.{place_of}
use Rattle.chart_query.specs.declared.answer.Place.TheVariants as place
use Rattle.chart_query.specs.declared.answer.Place.{Place}
use Rattle.tiling_laws.specs.Truth.{GridsHaveFields, TruthFromFields}
use Rattle.point_laws.specs.Lines.{AlikeDrawAlike, DrawnAreLines}
use Rattle.mesh_ground_laws.specs.Grounds.{FieldsAreSound, FieldsHaveOneClass}
use Rattle.plane_geom.specs.declared.Point.{Point}
use Rattle.point_laws.specs.Once.{GeneralisedOnce, NeedPartsOnce, PartAlike}
use Rattle.shoal_buffer.specs.Charted.{ChartedView}
use Rattle.tri_mesh.specs.Lines.{OnDrawn}
use Rattle.point_laws.proofs.One.{turned_about}
use Rattle.point_laws.proofs.Ranges.{range_once}
use Rattle.point_laws.specs.Alike.SayAlike.{Edges, Outsides, Depths, Unsurveyeds}
use Rattle.point_laws.specs.Alike.{ChartAndGroundAgree, SayAlike}
use Rattle.point_laws.specs.Places.IsPlaceOf.{OnALine, Beyond, InArea}
use Rattle.point_laws.specs.Places.{ChartsPlace, IsPlaceOf}

-- drawn lines are those of the mesh, and are the same in blocks that part the cells alike; and off them the ground is of one class
module _ (lines : DrawnAreLines) (alike : AlikeDrawAlike) (one_class : FieldsHaveOneClass) where
  module _ (v : ChartedView) (levels : List ℤ) (h : IsField (field_of v levels)) (block other : ℕ → ℕ → ℕ) (part : PartAlike (field_of v levels) block other) (c : Parts) (p : Point) where
    abbrev f : Field
    f = field_of v levels

    -- a point is on a line of the mesh just where it is drawn in the other blocks
    line_drawn : OnLine (whole_mesh f block) p → OnDrawn f other p
    line_drawn on = alike f block other part p ((lines f block h p).1 on)

    drawn_line : OnDrawn f other p → OnLine (whole_mesh f block) p
    drawn_line on = (lines f block h p).0 (alike f other block (turned_about f block other part) p on)

    -- off the lines and within the coverage, where the chart has one area of the class of the ground
    module _ (off : ¬ (OnLine (whole_mesh f block) p)) (within : InCoverage f p) (k : ℕ) (area : Feature) (at : slice_get c.features k ≡ Some area)
        (K : Class) (real : IsGround f p K) (tells : IsAreaOf v levels K area) where
      -- whatever class the ground has there, the area is one of it
      tells_it : (L : Class) → IsGround f p L → IsAreaOf v levels L area
      tells_it L is = subst (λ z. IsAreaOf v levels z area) (one_class f block h p K L off real is) tells

      -- where it has depths, the area tells these
      tells_depths : (low high : ℤ) → HasDepths v levels p low high → IsDepthArea low high area
      tells_depths low high x =
          let told = tells_it (class.Band x.band) x.is in
          let ends = range_once v levels x.band told.0 told.1 low high told.2 x.range in
          subst (λ l. IsDepthArea l high area) ends.0 (subst (λ d. IsDepthArea told.0 d area) ends.1 told.3)

      -- so the area says what the answer says
      area_says : (a : GroundAt) → IsAnswer v levels other p a → SayAlike c (place.Areas (k ∷ [])) a
      area_says Edge x = absurd (off (drawn_line (x.edge.0 refl)))
      area_says Outside x = absurd ((x.outside.0 refl) within)
      area_says (Depth low high) x = Depths k area low high at (tells_depths low high (x.depth low high refl))
      area_says Unsurveyed x = Unsurveyeds k area at (tells_it class.Unsurveyed (x.unsurveyed refl))

    -- wherever the point lies, place and answer say the same
    place_says : (here : Place) (a : GroundAt) → IsPlaceOf f v (whole_mesh f block) c p here → IsAnswer v levels other p a → SayAlike c here a
    place_says here a (OnALine on) x = subst (SayAlike c place.Edge) (sym (x.edge.1 (line_drawn on))) Edges
    place_says here a (Beyond off out) x = subst (SayAlike c place.Outside) (sym (x.outside.1 out)) Outsides
    place_says here a (InArea off within k area at K real tells) x = area_says off within k area at K real tells a x

  -- a grid is generalised in one way and its blocks part the cells in one way, and its chart tells the truth, so its chart and itself say the same
  pub chart_says : GeneralisedOnce → NeedPartsOnce → GridsHaveFields → FieldsAreSound → TruthFromFields → ChartsPlace → ChartAndGroundAgree
  chart_says generalised parted fields sound truth places g s c grid sheet is p a x =
      let told = truth sound g s c grid sheet is in
      let same : x.view ≡ is.view = generalised g s.aspect s.disc_radius s.step_from s.steps x.view is.view grid x.generalised is.generalised in
      let by_need = subst (λ v. AreByNeed (field_of v s.levels) x.blocks x.rect x.block) same x.by_need in
      let found = subst (λ v. IsAnswer v s.levels x.block p a) same x.answer in
      let part = parted (field_of is.view s.levels) is.blocks x.blocks is.rect x.rect is.block x.block is.by_need by_need in
      place_says is.view s.levels (fields g s is.view grid sheet is.generalised) is.block x.block part c p (place_of c p) a (places g s c is told.0 told.1 p) found
