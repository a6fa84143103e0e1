-- Where a chart that tells the truth has a point.
use Rattle.std.specs.Prelude.{◌≡◌, ℕ, Some, [], ◌∷◌, slice_get}
use Rattle.mesh_definitions.specs.Faces.{OnLine}
use Rattle.mesh_definitions.specs.Field.{Field, InCoverage, field_of}
use Rattle.mesh_definitions.specs.Ground.{IsGround}
use Rattle.mesh_definitions.specs.Pieces.{Mesh}
use Rattle.mesh_definitions.specs.declared.Class.{Class}
use Rattle.chart_definitions.specs.Areas.{IsAreaOf}
use Rattle.chart_definitions.specs.ChartOf.{IsChartOf, mesh_in}
use Rattle.chart_definitions.specs.SoundEdges.{HasSoundEdges}
use Rattle.chart_definitions.specs.Truth.{TellsTheTruth}
use Rattle.chart_model.specs.declared.records.Feature.{Feature}
use Rattle.chart_model.specs.declared.records.Parts.{Parts}
use Rattle.chart_query.specs.Answer.{place_of}
use Rattle.chart_query.specs.declared.answer.Place.TheVariants.{Outside, Edge, Areas}
use Rattle.chart_query.specs.declared.answer.Place.{Place}
use Rattle.depth_grid.specs.Grid.{GridView}
use Rattle.plane_geom.specs.declared.Point.{Point}
use Rattle.rule_sheet.specs.Values.{SheetView}
use Rattle.shoal_buffer.specs.Charted.{ChartedView}

-- The place where p truly lies: Edge on a drawn line; off the lines Outside beyond the coverage, and within it one area alone, which tells the class of the ground at p.
pub data IsPlaceOf (f : Field) (v : ChartedView) (m : Mesh) (c : Parts) (p : Point) : Place → Type 0 where
  OnALine : OnLine m p → IsPlaceOf f v m c p Edge
  Beyond : ¬ (OnLine m p) → ¬ (InCoverage f p) → IsPlaceOf f v m c p Outside
  InArea : ¬ (OnLine m p) → InCoverage f p → (k : ℕ) (a : Feature) → slice_get c.features k ≡ Some a → (class : Class) → IsGround f p class → IsAreaOf v f.levels class a → IsPlaceOf f v m c p (Areas (k ∷ []))

-- a chart of a grid and a sheet that tells the truth and has sound edges answers for each point with the place where it truly lies
abbrev pub ChartsPlace : Type 0
ChartsPlace = (g : GridView) (s : SheetView) (c : Parts) (is : IsChartOf g s c) → TellsTheTruth g s is.view c → HasSoundEdges (field_of is.view s.levels) (mesh_in is.view s is.block) is.face c →
    (p : Point) → IsPlaceOf (field_of is.view s.levels) is.view (mesh_in is.view s is.block) c p (place_of c p)
