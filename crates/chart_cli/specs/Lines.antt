-- The lines that the program puts out.
use Rattle.std.specs.Prelude.{codes, ℕ, nat_lt, Bool, ◌&&◌, ℤ, pos, List, [], ◌∷◌, ◌++◌, length, Option, Some, None, if◌then◌else◌, decimal}
use Rattle.exact_num.specs.Printed.{decimetres, degrees}
use Rattle.depth_grid.specs.Grid.{GridView, place, depth_at}
use Rattle.depth_rounding.specs.Steps.{shoal_of}
use Rattle.grid_reader.specs.declared.fault.GridFault.{GridFault}
use Rattle.grid_reader.specs.declared.fault.GridFault.TheVariants as fault
use Rattle.grid_reader.specs.declared.key.GridKey.{GridKey}
use Rattle.grid_reader.specs.Keys.{grid_key_name}
use Rattle.rule_sheet.specs.Keys.{name_of}
use Rattle.rule_sheet.specs.declared.fault.SheetFault.{SheetFault}
use Rattle.rule_sheet.specs.declared.fault.SheetFault.TheVariants as sheet
use Rattle.rule_sheet.specs.declared.key.Key.{Key}
use Rattle.chart_model.specs.declared.counts.Tally.{Tally}
use Rattle.chart_cli.specs.Words.{Node}

-- a depth in millimetres as metres, rounded towards shoal by the usual steps
abbrev pub depth_text : Option ℤ → List ℕ
depth_text None = codes "nodata\n"
depth_text (Some mm) = codes "depth " ++ (decimetres (shoal_of (pos 210 ∷ pos 310 ∷ []) (pos 1 ∷ pos 5 ∷ pos 10 ∷ []) mm) ++ codes "\n")

-- what is said of a node of the grid, and of one that the grid doesn't have
abbrev pub inside_text : GridView → ℕ → ℕ → List ℕ
inside_text grid row col = codes " lon " ++ (degrees (place grid.xs col) ++ (codes " lat " ++ (degrees (place grid.ys row) ++ (codes " " ++ depth_text (depth_at grid row col)))))

abbrev pub has_node : GridView → ℕ → ℕ → Bool
has_node grid row col = nat_lt row (length grid.ys) && nat_lt col (length grid.xs)

abbrev pub place_text : GridView → ℕ → ℕ → List ℕ
place_text grid row col = if has_node grid row col then inside_text grid row col else codes " outside\n"

abbrev pub node_line : GridView → Node → List ℕ
node_line grid node = codes "node " ++ (decimal node.row ++ (codes " " ++ (decimal node.col ++ place_text grid node.row node.col)))

-- the place of a fault
abbrev pub at_text : List ℕ → ℕ → List ℕ
at_text number at = codes "refused grid " ++ (number ++ (codes " at " ++ (decimal at ++ codes "\n")))

abbrev pub of_key_text : List ℕ → GridKey → List ℕ
of_key_text number key = codes "refused grid " ++ (number ++ (codes " " ++ (grid_key_name key ++ codes "\n")))

-- the line of a refusal: its number, and its place, key or count
abbrev pub grid_refusal : GridFault → List ℕ
grid_refusal (fault.Header at) = at_text (codes "1") at
grid_refusal (fault.Missing key) = of_key_text (codes "2") key
grid_refusal (fault.Repeated at) = at_text (codes "3") at
grid_refusal (fault.Number at) = at_text (codes "4") at
grid_refusal (fault.TooFew found) = codes "refused grid 5 found " ++ (decimal found ++ codes "\n")
grid_refusal (fault.Trailing at) = at_text (codes "6") at
grid_refusal (fault.Side key) = of_key_text (codes "7") key
grid_refusal fault.CellSize = codes "refused grid 8\n"
grid_refusal fault.Position = codes "refused grid 9\n"
grid_refusal (fault.Depth at) = at_text (codes "10") at
grid_refusal fault.NoMemory = []

abbrev pub sheet_key_text : List ℕ → Key → List ℕ
sheet_key_text number key = codes "refused sheet " ++ (number ++ (codes " " ++ (name_of key ++ codes "\n")))

-- the line of a sheet's refusal: its number, and its key
abbrev pub sheet_refusal : SheetFault → List ℕ
sheet_refusal sheet.Toml = codes "refused sheet 1\n"
sheet_refusal (sheet.Missing key) = sheet_key_text (codes "2") key
sheet_refusal (sheet.Kind key) = sheet_key_text (codes "3") key
sheet_refusal (sheet.Range key) = sheet_key_text (codes "4") key
sheet_refusal (sheet.Order key) = sheet_key_text (codes "5") key
sheet_refusal sheet.Unknown = codes "refused sheet 6\n"
sheet_refusal sheet.NoMemory = []

-- the line of a chart that is too large: nodes times bands, and how many there may be
abbrev pub size_refusal : ℕ → List ℕ
size_refusal size = codes "refused size " ++ (decimal size ++ codes " limit 3000000\n")

-- the line of a factor that isn't less than a grid's rows and columns
abbrev pub factor_refusal : ℕ → List ℕ
factor_refusal factor = codes "refused factor " ++ (decimal factor ++ codes "\n")

-- the line of a cell that was made: how many areas, contours and soundings it has, and its length
abbrev pub cell_line : Tally → ℕ → List ℕ
cell_line tally len =
    codes "areas " ++ (decimal tally.areas ++ (codes " contours " ++ (decimal tally.contours
    ++ (codes " soundings " ++ (decimal tally.soundings ++ (codes " bytes " ++ (decimal len ++ codes "\n")))))))
