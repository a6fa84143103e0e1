-- What `query` says of a chart, and `ground` of the grid and the sheet that it was made of.
use Rattle.std.specs.Prelude.{◌≡◌}
use Rattle.chart_ground.specs.Answers.{IsGroundAt}
use Rattle.chart_ground.specs.Line.{ground_line}
use Rattle.chart_ground.specs.declared.answer.GroundAt.{GroundAt}
use Rattle.chart_definitions.specs.ChartOf.{IsChartOf}
use Rattle.depth_grid.specs.Grid.{IsGrid, GridView}
use Rattle.chart_model.specs.declared.records.Parts.{Parts}
use Rattle.chart_query.specs.Lines.{query_text}
use Rattle.plane_geom.specs.declared.Point.{Point}
use Rattle.rule_sheet.specs.Values.{IsSheet, SheetView}

-- At p, `query` says of a chart word for word what `ground` says of a grid and a sheet: these have an answer there, they have no other, and its line is what is said of the chart.
pub record AnswersAsGround (g : GridView) (s : SheetView) (c : Parts) (p : Point) : Type 0 where
  pub answer : GroundAt
  pub is : IsGroundAt g s p answer
  pub one : (a : GroundAt) → IsGroundAt g s p a → a ≡ answer
  pub says : query_text p c ≡ ground_line answer

-- the chart of a grid and a sheet answers as they do, at every point
abbrev pub ChartsAnswerAsGround : Type 0
ChartsAnswerAsGround = (g : GridView) (s : SheetView) (c : Parts) → IsGrid g → IsSheet s → IsChartOf g s c → (p : Point) → AnswersAsGround g s c p
