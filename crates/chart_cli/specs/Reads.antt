-- What the files give that a command names: values, or the first refusal in the order of work.
use Rattle.std.specs.Prelude.{codes, ℕ, ◌+◌, ◌*◌, nat_lt, nat_le, Bool, ◌&&◌, List, length, Option, Some, None, Result, Ok, Err, if◌then◌else◌}
use Rattle.std.specs.Str.{is_utf8}
use Rattle.toml.specs.Data.{Members}
use Rattle.toml.specs.Parse.{parse_document}
use Rattle.cell_reader.specs.Reading.{reading as cell_reading}
use Rattle.cell_reader.specs.declared.fault.CellFault.{CellFault}
use Rattle.chart_model.specs.declared.records.Parts.{Parts}
use Rattle.depth_grid.specs.Grid.{GridView}
use Rattle.grid_reader.specs.Reading.{reading as grid_reading}
use Rattle.grid_reader.specs.declared.fault.GridFault.{GridFault}
use Rattle.grid_reader.specs.declared.sense.Sense.{Sense}
use Rattle.grid_reader.specs.declared.sense.Sense.TheVariants as sense
use Rattle.overview_grid.specs.Coarse.{coarse_grid}
use Rattle.rule_sheet.specs.Sheet.{sheet_of}
use Rattle.rule_sheet.specs.Values.{SheetView}
use Rattle.rule_sheet.specs.declared.fault.SheetFault.{SheetFault}
use Rattle.rule_sheet.specs.declared.fault.SheetFault.TheVariants.{Toml}
use Rattle.rule_sheet.specs.declared.sheet.Sense2.{Sense2}
use Rattle.rule_sheet.specs.declared.sheet.Sense2.TheVariants.{Down, Up}
use Rattle.readings.specs.Readings.{◌>>=◌}
use Rattle.update_apply.specs.Applied.{chart_after}
use Rattle.update_reader.specs.Reading.{update_reading}
use Rattle.update_reader.specs.declared.change.Update.{Update}
use Rattle.update_reader.specs.declared.fault.UpdateFault.{UpdateFault}
use Rattle.chart_cli.specs.CellLines.{cell_refusal}
use Rattle.chart_cli.specs.Lines.{factor_refusal, grid_refusal, sheet_refusal, size_refusal}
use Rattle.chart_cli.specs.UpdateLines.{update_refusal}

-- why a file or an input gives no value: it is refused, with this line, or it isn't there
pub data Stop : Type 0 where
  refused : List ℕ → Stop
  missing : Stop

-- what files give: a value, or why not
abbrev pub Read : Type 0 → Type 0
Read X = Result X Stop

-- ---- a file

-- the bytes of a file that may have so many; a larger one is refused with this line
abbrev pub file_in : ℕ → List ℕ → Option (List ℕ) → Read (List ℕ)
file_in limit too_large None = Err missing
file_in limit too_large (Some bytes) = if nat_lt limit (length bytes) then Err (refused too_large) else Ok bytes

-- ---- a grid

abbrev pub grid_or_refusal : Result GridView GridFault → Read GridView
grid_or_refusal (Ok grid) = Ok grid
grid_or_refusal (Err fault) = Err (refused (grid_refusal fault))

-- a grid's file may have 64 MiB
abbrev pub grid_in : Sense → Option (List ℕ) → Read GridView
grid_in positive file = do
  bytes ← file_in 67108864 (codes "refused grid large\n") file
  grid_or_refusal (grid_reading positive bytes)

-- ---- a cell

abbrev pub chart_or_refusal : Result Parts CellFault → Read Parts
chart_or_refusal (Ok chart) = Ok chart
chart_or_refusal (Err fault) = Err (refused (cell_refusal fault))

-- a cell's file may have 4,000,000,000 bytes
abbrev pub chart_in : Option (List ℕ) → Read Parts
chart_in file = do
  bytes ← file_in 4000000000 (codes "refused cell large\n") file
  chart_or_refusal (cell_reading bytes)

-- ---- an update

abbrev pub update_or_refusal : {X : Type 0} → Result X UpdateFault → Read X
update_or_refusal (Ok x) = Ok x
update_or_refusal (Err fault) = Err (refused (update_refusal fault))

-- an update's file may have 64 MiB
abbrev pub update_in : Option (List ℕ) → Read Update
update_in file = do
  bytes ← file_in 67108864 (codes "refused update large\n") file
  update_or_refusal (update_reading bytes)

-- a chart after an update, and how many records the update has behind its data set record
pub record RevisedView : Type 0 where
  pub chart : Parts
  pub records : ℕ

-- a chart after an update that was read
abbrev pub revised_by : Parts → Update → Read RevisedView
revised_by base update = do
  chart ← update_or_refusal (chart_after base update)
  Ok (record { chart = chart; records = length update.changes })

-- the base first, then the update, and then its changes are made
abbrev pub revision_in : Option (List ℕ) → Option (List ℕ) → Read RevisedView
revision_in base_file update_file = do
  base ← chart_in base_file
  update ← update_in update_file
  revised_by base update

-- ---- a sheet

-- the table that a text is in TOML, where it is one
abbrev pub table_in : List ℕ → Option Members
table_in text = if is_utf8 text then parse_document text else None

abbrev pub sheet_from : Option Members → Result SheetView SheetFault
sheet_from None = Err Toml
sheet_from (Some table) = sheet_of table

-- the sheet that a text stands for, or its first fault
abbrev pub sheet_reading : List ℕ → Result SheetView SheetFault
sheet_reading text = sheet_from (table_in text)

abbrev pub sheet_or_refusal : Result SheetView SheetFault → Read SheetView
sheet_or_refusal (Ok sheet) = Ok sheet
sheet_or_refusal (Err fault) = Err (refused (sheet_refusal fault))

-- a sheet's file may have 64 KiB
abbrev pub sheet_in : Option (List ℕ) → Read SheetView
sheet_in file = do
  bytes ← file_in 65536 (codes "refused sheet large\n") file
  sheet_or_refusal (sheet_reading bytes)

-- ---- a grid and a sheet

pub record InputsView : Type 0 where
  pub grid : GridView
  pub sheet : SheetView

-- the sense in which a sheet says that a grid's values grow
abbrev pub sense_of : Sense2 → Sense
sense_of Down = sense.Down
sense_of Up = sense.Up

-- how many nodes times bands there are, where each level begins a band and there is one before the first
abbrev pub size_of : InputsView → ℕ
size_of i = length i.grid.ys * length i.grid.xs * (length i.sheet.levels + 1)

-- a chart may have 3,000,000 nodes times bands
abbrev pub inputs_or_refusal : InputsView → Read InputsView
inputs_or_refusal i = if nat_le (size_of i) 3000000 then Ok i else Err (refused (size_refusal (size_of i)))

-- the sheet first, then the grid by the sheet's sense
abbrev pub sources_in : Option (List ℕ) → Option (List ℕ) → Read InputsView
sources_in sheet_file grid_file = do
  sheet ← sheet_in sheet_file
  grid ← grid_in (sense_of sheet.positive) grid_file
  Ok (record { grid = grid; sheet = sheet })

-- and then the size
abbrev pub inputs_in : Option (List ℕ) → Option (List ℕ) → Read InputsView
inputs_in sheet_file grid_file = do
  sources ← sources_in sheet_file grid_file
  inputs_or_refusal sources

-- ---- an overview

-- whether a grid has an overview by a factor: it is less than the rows and the columns
abbrev pub has_overview : GridView → ℕ → Bool
has_overview grid factor = nat_lt factor (length grid.ys) && nat_lt factor (length grid.xs)

abbrev pub overview_or_refusal : ℕ → GridView → Read GridView
overview_or_refusal factor grid = if has_overview grid factor then Ok (coarse_grid grid factor) else Err (refused (factor_refusal factor))

-- the sheet first, then the grid, then the factor, and then the size of the overview
abbrev pub overview_in : ℕ → Option (List ℕ) → Option (List ℕ) → Read InputsView
overview_in factor sheet_file grid_file = do
  sources ← sources_in sheet_file grid_file
  coarse ← overview_or_refusal factor sources.grid
  inputs_or_refusal (record { grid = coarse; sheet = sources.sheet })
