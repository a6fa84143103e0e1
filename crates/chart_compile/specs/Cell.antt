-- The cell of a grid and a sheet.
use Rattle.std.specs.Prelude.{◌≡◌, ℕ, List, All}
use Rattle.cell_reader.specs.Reading.{StandsFor}
use Rattle.mesh_definitions.specs.Field.{field_of}
use Rattle.chart_definitions.specs.ChartOf.{IsChartOf, mesh_in}
use Rattle.chart_definitions.specs.SoundEdges.{HasSoundEdges}
use Rattle.chart_definitions.specs.Truth.{TellsTheTruth}
use Rattle.chart_model.specs.Areas.{areas}
use Rattle.chart_model.specs.Tally.{tally_of}
use Rattle.chart_model.specs.declared.counts.Tally.{Tally}
use Rattle.chart_model.specs.declared.records.Parts.{Parts}
use Rattle.depth_grid.specs.Grid.{GridView}
use Rattle.exterior_laws.specs.Begins.{BeginsWithExterior}
use Rattle.plane_geom.specs.declared.Point.{Point}
use Rattle.point_laws.specs.Answered.{AnswersAsGround}
use Rattle.rule_sheet.specs.Values.{SheetView}

-- The cell of a grid and a sheet: its bytes stand for a chart that is the chart of the grid and the sheet and tells the truth about them, with sound edges. The pointers of each of its areas begin with an exterior ring. For every point, `query` says of the chart word for word what `ground` says of the grid and the sheet. And the chart has so many areas, contours and soundings.
pub record IsCellOf (g : GridView) (s : SheetView) (bytes : List ℕ) (tally : Tally) : Type 0 where
  pub chart : Parts
  pub decodes : StandsFor bytes chart
  pub is : IsChartOf g s chart
  pub truth : TellsTheTruth g s is.view chart
  pub edges : HasSoundEdges (field_of is.view s.levels) (mesh_in is.view s is.block) is.face chart
  pub exteriors : All (BeginsWithExterior chart) (areas chart)
  pub answers : (p : Point) → AnswersAsGround g s chart p
  pub tally_is : tally ≡ tally_of chart
