-- A grid and a sheet have one answer at each point.
use Rattle.std.proofs.Common.{◌≡◌, ℕ, ℤ, List, refl, sym, ap₂, subst}
use Rattle.mesh_definitions.specs.Blocks.{AreByNeed}
use Rattle.mesh_definitions.specs.Faces.{OnLine}
use Rattle.mesh_definitions.specs.Field.{Field, IsField, field_of}
use Rattle.mesh_definitions.specs.Ground.{IsGround}
use Rattle.mesh_definitions.specs.Pieces.{whole_mesh}
use Rattle.mesh_definitions.specs.Ranges.{IsRange}
use Rattle.mesh_definitions.specs.declared.Class.TheVariants as class
use Rattle.chart_ground.specs.Answers.{HasDepths, IsAnswer}
use Rattle.chart_ground.specs.declared.answer.GroundAt.TheVariants.{Outside, Edge, Depth, Unsurveyed}
use Rattle.chart_ground.specs.declared.answer.GroundAt.{GroundAt}
use Rattle.tiling_laws.specs.Truth.{GridsHaveFields}
use Rattle.point_laws.specs.Lines.{AlikeDrawAlike, DrawnAreLines}
use Rattle.mesh_ground_laws.specs.Grounds.{FieldsHaveOneClass}
use Rattle.plane_geom.specs.declared.Point.{Point}
use Rattle.point_laws.specs.Once.{GeneralisedOnce, NeedPartsOnce, PartAlike}
use Rattle.shoal_buffer.specs.Charted.{ChartedView}
use Rattle.tri_mesh.specs.Lines.{OnDrawn}
use Rattle.point_laws.proofs.Ranges.{range_once}
use Rattle.point_laws.specs.Alike.{GroundIsOne}

-- numberings that part the cells alike do so in either order
pub turned_about : (f : Field) (block other : ℕ → ℕ → ℕ) → PartAlike f block other → PartAlike f other block
turned_about f block other part i j k l c d = let both = part i j k l c d in (both.1, both.0)

-- drawn lines are those of the mesh, and are the same in blocks that part the cells alike; and off them the ground is of one class
module _ (lines : DrawnAreLines) (alike : AlikeDrawAlike) (one_class : FieldsHaveOneClass) where
  module _ (v : ChartedView) (levels : List ℤ) (h : IsField (field_of v levels)) (block other : ℕ → ℕ → ℕ) (part : PartAlike (field_of v levels) block other) (p : Point) where
    abbrev f : Field
    f = field_of v levels

    -- what the other numbering draws is drawn
    drawn_here : OnDrawn f other p → OnDrawn f block p
    drawn_here on = alike f other block (turned_about f block other part) p on

    drawn_there : OnDrawn f block p → OnDrawn f other p
    drawn_there on = alike f block other part p on

    -- ground with two ranges of depths has one
    one_depth : ¬ (OnLine (whole_mesh f block) p) → (low high shoaler deeper : ℤ) → HasDepths v levels p low high → HasDepths v levels p shoaler deeper → Depth low high ≡ Depth shoaler deeper
    one_depth off low high shoaler deeper x y =
        let same : class.Band x.band ≡ class.Band y.band = one_class f block h p (class.Band x.band) (class.Band y.band) off x.is y.is in
        let band : x.band ≡ y.band = cc (same) in
        let ends = range_once v levels y.band low high shoaler deeper (subst (λ b. IsRange v levels b low high) band x.range) y.range in
        ap₂ (λ l h. Depth l h) ends.0 ends.1

    -- and none where it is unsurveyed
    depth_or_not : ¬ (OnLine (whole_mesh f block) p) → (low high : ℤ) → HasDepths v levels p low high → IsGround f p class.Unsurveyed → ⊥
    depth_or_not off low high x bare =
        let same : class.Band x.band ≡ class.Unsurveyed = one_class f block h p (class.Band x.band) class.Unsurveyed off x.is bare in
        cc (same)

    -- an answer that isn't an edge is off the lines
    off_lines : (a : GroundAt) → IsAnswer v levels block p a → ¬ (a ≡ Edge) → ¬ (OnLine (whole_mesh f block) p)
    off_lines a x never on = never (x.edge.1 ((lines f block h p).1 on))

    -- so two answers of one generalised grid are one, in blocks that part the cells alike
    pub one_answer : (a b : GroundAt) → IsAnswer v levels block p a → IsAnswer v levels other p b → a ≡ b
    one_answer Edge b x y = sym (y.edge.1 (drawn_there (x.edge.0 refl)))
    one_answer Outside b x y = sym (y.outside.1 (x.outside.0 refl))
    one_answer (Depth low high) Edge x y = x.edge.1 (drawn_here (y.edge.0 refl))
    one_answer (Depth low high) Outside x y = x.outside.1 (y.outside.0 refl)
    one_answer (Depth low high) (Depth shoaler deeper) x y = one_depth (off_lines (Depth low high) x (λ e. cc (e))) low high shoaler deeper (x.depth low high refl) (y.depth shoaler deeper refl)
    one_answer (Depth low high) Unsurveyed x y = absurd (depth_or_not (off_lines (Depth low high) x (λ e. cc (e))) low high (x.depth low high refl) (y.unsurveyed refl))
    one_answer Unsurveyed Edge x y = x.edge.1 (drawn_here (y.edge.0 refl))
    one_answer Unsurveyed Outside x y = x.outside.1 (y.outside.0 refl)
    one_answer Unsurveyed (Depth shoaler deeper) x y = absurd (depth_or_not (off_lines Unsurveyed x (λ e. cc (e))) shoaler deeper (y.depth shoaler deeper refl) (x.unsurveyed refl))
    one_answer Unsurveyed Unsurveyed x y = refl

  -- a grid is generalised in one way and its blocks part the cells in one way, so a grid and a sheet have one answer
  pub ground_once : GeneralisedOnce → NeedPartsOnce → GridsHaveFields → GroundIsOne
  ground_once generalised parted fields g s p a b grid sheet x y =
      let same : y.view ≡ x.view = generalised g s.aspect s.disc_radius s.step_from s.steps y.view x.view grid y.generalised x.generalised in
      let by_need = subst (λ v. AreByNeed (field_of v s.levels) y.blocks y.rect y.block) same y.by_need in
      let found = subst (λ v. IsAnswer v s.levels y.block p b) same y.answer in
      let part = parted (field_of x.view s.levels) x.blocks y.blocks x.rect y.rect x.block y.block x.by_need by_need in
      one_answer x.view s.levels (fields g s x.view grid sheet x.generalised) x.block y.block part p a b x.answer found
