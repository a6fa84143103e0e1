-- What is due: what the words and the contents of the shelf ask of the program.
use Rattle.std.specs.Prelude.{codes, ℕ, List, Option, Some, None, Ok, Err}
use Rattle.std.specs.FinMap.{get}
use Rattle.chart_dev.specs.Contents.{Contents}
use Rattle.chart_model.specs.declared.records.Parts.{Parts}
use Rattle.chart_sample.specs.Rules.{sample_values}
use Rattle.chart_sample.specs.Sample.{sample_view}
use Rattle.depth_grid.specs.Grid.{GridView}
use Rattle.grid_reader.specs.declared.sense.Sense.TheVariants.{Down}
use Rattle.plane_geom.specs.declared.Point.{Point}
use Rattle.rule_sheet.specs.Values.{SheetView}
use Rattle.chart_cli.specs.declared.status.Status.{Status}
use Rattle.chart_cli.specs.declared.status.Status.TheVariants.{Done, Refused, Usage}
use Rattle.chart_cli.specs.Words.{Origin, sources, overview, sample, Command, node, ground, ask, check, make, revise}
use Rattle.chart_cli.specs.CellLines.{answer_to}
use Rattle.chart_cli.specs.Lines.{node_line}
use Rattle.chart_cli.specs.Reads.{Read, refused, missing, InputsView, RevisedView, grid_in, chart_in, inputs_in, overview_in, revision_in}

-- what is due: a status with lines; a cell of a grid and a sheet under a name; a cell after an update under a name; the line of what lies at a point by a grid and a sheet; the line of the verdict on a chart's tiling; or nothing, where an input isn't there
pub data Due : Type 0 where
  says : Status → List ℕ → Due
  makes : List ℕ → GridView → SheetView → Due
  revises : List ℕ → RevisedView → Due
  grounds : GridView → SheetView → Point → Due
  judges : Parts → Due
  absent : Due

abbrev pub usage : List ℕ
usage = codes "chart: these words are no command\n"

-- a refusal is said, and else this is due of the value
abbrev pub due_by : {X : Type 0} → (X → Due) → Read X → Due
due_by due (Ok x) = due x
due_by due (Err (refused line)) = says Refused line
due_by due (Err missing) = absent

-- the grid and the sheet that a cell is made from; those of a sample are always valid, and not too large
abbrev pub inputs_of : Origin → Contents → Read InputsView
inputs_of (sources names) files = inputs_in (get files names.sheet) (get files names.grid)
inputs_of (overview names factor) files = overview_in factor (get files names.sheet) (get files names.grid)
inputs_of (sample n) files = Ok (record { grid = sample_view n; sheet = sample_values })

-- what a command makes due
abbrev pub due_of : Command → Contents → Due
due_of (node n) files = due_by (λ grid. says Done (node_line grid n)) (grid_in Down (get files n.grid))
due_of (ground names p) files = due_by (λ i. grounds i.grid i.sheet p) (inputs_of (sources names) files)
due_of (ask cell question) files = due_by (λ chart. says Done (answer_to question chart)) (chart_in (get files cell))
due_of (check cell) files = due_by judges (chart_in (get files cell))
due_of (make origin cell) files = due_by (λ i. makes cell i.grid i.sheet) (inputs_of origin files)
due_of (revise names cell) files = due_by (revises cell) (revision_in (get files names.base) (get files names.update))

-- what the words and the contents make due
abbrev pub due : Option Command → Contents → Due
due None files = says Usage usage
due (Some command) files = due_of command files
