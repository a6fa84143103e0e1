-- Made parts are the chart of their grid and sheet, and their cell tells the truth.
use Rattle.std.proofs.Common.{◌≡◌, ℕ, true, List, IfOk, OnOk}
use Rattle.std.specs.Prelude.{Result, Ok, Err}
use Rattle.std.specs.declared.alloc.AllocError.{AllocError}
use Rattle.cell_laws.specs.Again.{ReadsAgain}
use Rattle.cell_writer.specs.Layout.{fits_of, layout}
use Rattle.cell_writer.specs.Sized.{IsSized}
use Rattle.chart_compile.specs.Cell.{IsCellOf}
use Rattle.chart_compile.specs.declared.writing.Compiled.{Compiled}
use Rattle.chart_definitions.specs.ChartOf.{IsChartOf}
use Rattle.depth_grid.specs.Grid.{IsGrid, GridView}
use Rattle.exterior_laws.specs.Begins.{AreasBeginWithExteriors}
use Rattle.chart_model.specs.Tally.{tally_of}
use Rattle.chart_model.specs.Whole.{IsWhole}
use Rattle.chart_model.specs.declared.counts.Tally.{Tally}
use Rattle.chart_model.specs.declared.records.Parts.{Parts}
use Rattle.built_parts.specs.Made.{AreMade}
use Rattle.tiling_laws.specs.Truth.{TruthFromFields}
use Rattle.depth_grid.specs.Views.{grid_view}
use Rattle.depth_grid.specs.declared.grid.Grid.{Grid}
use Rattle.parts_laws.specs.ChartOf.{MadeIsChartOf}
use Rattle.mesh_ground_laws.specs.Grounds.{FieldsAreSound}
use Rattle.point_laws.specs.Answered.{ChartsAnswerAsGround}
use Rattle.rule_sheet.specs.Values.{IsSheet, SheetView}

-- what is made is the chart
pub chart_made : MadeIsChartOf → (g : GridView) (s : SheetView) → IsSheet s → (r : Result Parts AllocError) → IfOk r (AreMade g s) → IfOk r (IsChartOf g s)
chart_made law g s sheet (Ok c) made = law g s c sheet made
chart_made law g s sheet (Err e) made = tt

-- what every grid keeps
pub is_grid : (g : Grid) → IsGrid (grid_view g)
is_grid g = record { columns = g.columns; rows = g.rows; eastwards = g.eastwards; southwards = g.southwards; full = g.full; limited = g.limited }

module _ (sound : FieldsAreSound) (truth : TruthFromFields) (outside : AreasBeginWithExteriors) (alike : ChartsAnswerAsGround) (again : ReadsAgain) (g : GridView) (s : SheetView) (grid : IsGrid g) (sheet : IsSheet s) (c : Parts) (is : IsChartOf g s c) (fits : fits_of c ≡ true) where
  -- the cell that the chart is written as is the cell of its grid and sheet
  cell_is : (bytes : List ℕ) (tally : Tally) → IsWhole c → IsSized c → bytes ≡ layout c → tally ≡ tally_of c → IsCellOf g s bytes tally
  cell_is bytes tally whole sized e t =
      let told = truth sound g s c grid sheet is in
      record { chart = c; decodes = rw e (again c whole sized fits); is = is; truth = told.0; edges = told.1; exteriors = outside g s c grid sheet is; answers = alike g s c grid sheet is; tally_is = t }

  pub cell_made : (r : Result Compiled AllocError) → OnOk r (IsWhole c) → OnOk r (IsSized c) → IfOk r (λ k. k.bytes.items ≡ layout c) → IfOk r (λ k. k.tally ≡ tally_of c) → IfOk r (λ k. IsCellOf g s k.bytes.items k.tally)
  cell_made (Ok k) whole sized e t = cell_is k.bytes.items k.tally whole sized e t
  cell_made (Err f) whole sized e t = tt
