-- A chart and the grid and sheet that it was made of say the same of each point.
use Rattle.std.specs.Prelude.{◌≡◌, ℕ, ℤ, Some, [], ◌∷◌, slice_get}
use Rattle.chart_ground.specs.Answers.{IsGroundAt}
use Rattle.chart_ground.specs.declared.answer.GroundAt.TheVariants as answer
use Rattle.chart_ground.specs.declared.answer.GroundAt.{GroundAt}
use Rattle.chart_definitions.specs.Areas.{IsDepthArea, IsUnsurveyedArea}
use Rattle.chart_definitions.specs.ChartOf.{IsChartOf}
use Rattle.depth_grid.specs.Grid.{IsGrid, GridView}
use Rattle.chart_model.specs.declared.records.Feature.{Feature}
use Rattle.chart_model.specs.declared.records.Parts.{Parts}
use Rattle.chart_query.specs.Answer.{place_of}
use Rattle.chart_query.specs.declared.answer.Place.TheVariants as place
use Rattle.chart_query.specs.declared.answer.Place.{Place}
use Rattle.plane_geom.specs.declared.Point.{Point}
use Rattle.rule_sheet.specs.Values.{SheetView, IsSheet}

-- A place in a chart says the same as the answer of a grid and a sheet: both say an edge, or both say outside,
-- or the place is one area alone: a depth area with just the answer's two depths, or an unsurveyed one where the answer is that.
pub data SayAlike (c : Parts) : Place → GroundAt → Type 0 where
  Edges : SayAlike c place.Edge answer.Edge
  Outsides : SayAlike c place.Outside answer.Outside
  Depths : (k : ℕ) (a : Feature) (low high : ℤ) → slice_get c.features k ≡ Some a → IsDepthArea low high a → SayAlike c (place.Areas (k ∷ [])) (answer.Depth low high)
  Unsurveyeds : (k : ℕ) (a : Feature) → slice_get c.features k ≡ Some a → IsUnsurveyedArea a → SayAlike c (place.Areas (k ∷ [])) answer.Unsurveyed

-- a grid and a sheet have at most one answer at each point
abbrev pub GroundIsOne : Type 0
GroundIsOne = (g : GridView) (s : SheetView) (p : Point) (a b : GroundAt) → IsGrid g → IsSheet s → IsGroundAt g s p a → IsGroundAt g s p b → a ≡ b

-- what a look-up finds at a point of the chart of a grid and a sheet says the same as the answer of the grid and the sheet there
abbrev pub ChartAndGroundAgree : Type 0
ChartAndGroundAgree = (g : GridView) (s : SheetView) (c : Parts) → IsGrid g → IsSheet s → IsChartOf g s c → (p : Point) (a : GroundAt) → IsGroundAt g s p a → SayAlike c (place_of c p) a
