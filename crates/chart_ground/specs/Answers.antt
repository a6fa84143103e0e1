-- What lies at a point by a grid and a sheet.
use Rattle.std.specs.Prelude.{◌≡◌, ◌↔◌, ℕ, ℤ, List}
use Rattle.mesh_definitions.specs.Blocks.{AreByNeed}
use Rattle.mesh_definitions.specs.Field.{InCoverage, IsGeneralised, field_of}
use Rattle.mesh_definitions.specs.Ground.{IsGround}
use Rattle.mesh_definitions.specs.Ranges.{IsRange}
use Rattle.mesh_definitions.specs.declared.Class.TheVariants as class
use Rattle.mesh_definitions.specs.declared.Rect.{Rect}
use Rattle.chart_ground.specs.declared.answer.GroundAt.TheVariants.{Outside, Edge, Depth, Unsurveyed}
use Rattle.chart_ground.specs.declared.answer.GroundAt.{GroundAt}
use Rattle.depth_grid.specs.Grid.{GridView}
use Rattle.plane_geom.specs.declared.Point.{Point}
use Rattle.rule_sheet.specs.Values.{SheetView}
use Rattle.shoal_buffer.specs.Charted.{ChartedView}
use Rattle.tri_mesh.specs.Lines.{OnDrawn}

-- the ground at p is of a band, and low and high are the ends of its range in decimetres
pub record HasDepths (v : ChartedView) (levels : List ℤ) (p : Point) (low high : ℤ) : Type 0 where
  pub band : ℕ
  pub is : IsGround (field_of v levels) p (class.Band band)
  pub range : IsRange v levels band low high

-- The answer at p of a generalised grid whose cells are in blocks: outside exactly off the coverage, an edge exactly on a drawn link or a chord, else the depths of the ground at p, or unsurveyed where that is unsurveyed.
pub record IsAnswer (v : ChartedView) (levels : List ℤ) (block : ℕ → ℕ → ℕ) (p : Point) (a : GroundAt) : Type 0 where
  pub outside : (a ≡ Outside) ↔ (¬ (InCoverage (field_of v levels) p))
  pub edge : (a ≡ Edge) ↔ OnDrawn (field_of v levels) block p
  pub depth : (low high : ℤ) → a ≡ Depth low high → HasDepths v levels p low high
  pub unsurveyed : a ≡ Unsurveyed → IsGround (field_of v levels) p class.Unsurveyed

-- The answer at p of a grid and a sheet: that of the grid generalised by the sheet's disc and steps, in blocks by need.
pub record IsGroundAt (g : GridView) (s : SheetView) (p : Point) (a : GroundAt) : Type 0 where
  pub view : ChartedView
  pub generalised : IsGeneralised g s.aspect s.disc_radius s.step_from s.steps view
  pub blocks : ℕ
  pub rect : ℕ → Rect
  pub block : ℕ → ℕ → ℕ
  pub by_need : AreByNeed (field_of view s.levels) blocks rect block
  pub answer : IsAnswer view s.levels block p a
