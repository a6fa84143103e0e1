-- What a command line asks for.
use Rattle.std.specs.Prelude.{codes, ℕ, ◌+◌, ◌-◌, ◌*◌, ◌&&◌, nat_lt, nat_le, ℤ, unsigned_abs, List, [], ◌∷◌, length, map, Option, Some, None, if◌then◌else◌, String, string_bytes}
use Rattle.std.specs.declared.alloc.Global.{Global}
use Rattle.std.specs.Str.{bytes_eq}
use Rattle.exact_num.specs.Number.{Number}
use Rattle.exact_num.specs.Text.{number_of as decimal_of}
use Rattle.exact_num.specs.Value.{floor_at}
use Rattle.plane_geom.specs.declared.Point.{Point}
use Rattle.chart_cli.specs.declared.cell_lines.Question.{Question}
use Rattle.chart_cli.specs.declared.cell_lines.Question.TheVariants as question

-- a node of a grid
pub record Node : Type 0 where
  pub grid : List ℕ
  pub row : ℕ
  pub col : ℕ

-- the names of a grid and a sheet
pub record Sources : Type 0 where
  pub grid : List ℕ
  pub sheet : List ℕ

-- what a cell is made from: a grid and a sheet in files, the overview of such a grid by a factor and the sheet, or the sample grid of a number and the sample sheet
pub data Origin : Type 0 where
  sources : Sources → Origin
  overview : Sources → ℕ → Origin
  sample : ℕ → Origin

-- the names of a cell and of an update of it
pub record Revision : Type 0 where
  pub base : List ℕ
  pub update : List ℕ

-- what is asked for: a node of a grid; what lies at a point by a grid and a sheet; the answer that the chart of a cell gives to a question; whether its areas tile what it covers; a cell, made under a name; or the cell that an update makes of a cell, under a name
pub data Command : Type 0 where
  node : Node → Command
  ground : Sources → Point → Command
  ask : List ℕ → Question → Command
  check : List ℕ → Command
  make : Origin → List ℕ → Command
  revise : Revision → List ℕ → Command

-- ---- whole numbers

-- digits behind the number n
abbrev pub number_after : ℕ → List ℕ → Option ℕ
number_after n [] = Some n
number_after n (c ∷ cs) = if nat_le 48 c && nat_le c 57 then number_after (n * 10 + (c - 48)) cs else None

-- one to so many digits
abbrev pub digits_of : ℕ → List ℕ → Option ℕ
digits_of most text = if nat_lt 0 (length text) && nat_le (length text) most then number_after 0 text else None

-- a row or a column has at most nine digits
abbrev pub number_of : List ℕ → Option ℕ
number_of text = digits_of 9 text

abbrev pub at_most : ℕ → Option ℕ → Option ℕ
at_most most None = None
at_most most (Some n) = if nat_le n most then Some n else None

-- the number of a sample has at most ten digits, and is at most 4,294,967,295
abbrev pub seed_of : List ℕ → Option ℕ
seed_of text = at_most 4294967295 (digits_of 10 text)

abbrev pub at_least : ℕ → Option ℕ → Option ℕ
at_least least None = None
at_least least (Some n) = if nat_le least n then Some n else None

-- the factor of an overview has one or two digits, and is from 2 to 64
abbrev pub factor_of : List ℕ → Option ℕ
factor_of text = at_least 2 (at_most 64 (digits_of 2 text))

-- ---- points

-- a whole number, where it is at most so far from 0
abbrev pub within : ℕ → ℤ → Option ℤ
within most z = if nat_le (unsigned_abs z) most then Some z else None

-- degrees in ten-millionths, rounded down
abbrev pub units_within : ℕ → Option Number → Option ℤ
units_within most None = None
units_within most (Some degrees) = within most (floor_at degrees 7)

abbrev pub units_of : ℕ → List ℕ → Option ℤ
units_of most text = units_within most (decimal_of text)

abbrev pub point_at : Option ℤ → Option ℤ → Option Point
point_at (Some lon) (Some lat) = Some (record { x = lon; y = lat })
point_at _ _ = None

-- a longitude within 180 degrees and a latitude within 90
abbrev pub point_of : List ℕ → List ℕ → Option Point
point_of lon lat = point_at (units_of 1800000000 lon) (units_of 900000000 lat)

-- ---- commands

abbrev pub node_of : List ℕ → Option ℕ → Option ℕ → Option Command
node_of grid (Some row) (Some col) = Some (node (record { grid = grid; row = row; col = col }))
node_of grid _ _ = None

abbrev pub query_of : List ℕ → Option Point → Option Command
query_of cell None = None
query_of cell (Some p) = Some (ask cell (question.At p))

abbrev pub ground_of : List ℕ → List ℕ → Option Point → Option Command
ground_of grid sheet None = None
ground_of grid sheet (Some p) = Some (ground (record { grid = grid; sheet = sheet }) p)

-- a depth in metres is any number
abbrev pub route_of : List ℕ → Option Number → Option Point → Option Point → Option Command
route_of cell (Some depth) (Some from) (Some to) = Some (ask cell (question.Along (record { a = from; b = to }) depth))
route_of cell _ _ _ = None

abbrev pub sample_of : Option ℕ → List ℕ → Option Command
sample_of None cell = None
sample_of (Some n) cell = Some (make (sample n) cell)

abbrev pub overview_of : List ℕ → List ℕ → Option ℕ → List ℕ → Option Command
overview_of grid sheet None cell = None
overview_of grid sheet (Some factor) cell = Some (make (overview (record { grid = grid; sheet = sheet }) factor) cell)

-- a command by its name and the words behind it: one, two, three, four or six
unfoldable pub with_one : List ℕ → List ℕ → Option Command
with_one command file =
    if bytes_eq command (codes "info") then Some (ask file question.Holdings)
    else (if bytes_eq command (codes "picture") then Some (ask file question.Picture)
    else (if bytes_eq command (codes "check") then Some (check file) else None))

unfoldable pub with_two : List ℕ → List ℕ → List ℕ → Option Command
with_two command n cell = if bytes_eq command (codes "sample") then sample_of (seed_of n) cell else None

unfoldable pub with_three : List ℕ → List ℕ → List ℕ → List ℕ → Option Command
with_three command file a b =
    if bytes_eq command (codes "node") then node_of file (number_of a) (number_of b)
    else (if bytes_eq command (codes "query") then query_of file (point_of a b)
    else (if bytes_eq command (codes "compile") then Some (make (sources (record { grid = file; sheet = a })) b)
    else (if bytes_eq command (codes "apply") then Some (revise (record { base = file; update = a }) b) else None)))

unfoldable pub with_four : List ℕ → List ℕ → List ℕ → List ℕ → List ℕ → Option Command
with_four command grid sheet a b =
    if bytes_eq command (codes "ground") then ground_of grid sheet (point_of a b)
    else (if bytes_eq command (codes "overview") then overview_of grid sheet (factor_of a) b else None)

unfoldable pub with_six : List ℕ → List ℕ → List ℕ → List ℕ → List ℕ → List ℕ → List ℕ → Option Command
with_six command cell depth from_lon from_lat to_lon to_lat =
    if bytes_eq command (codes "route") then route_of cell (decimal_of depth) (point_of from_lon from_lat) (point_of to_lon to_lat) else None

-- the words `info CELL`, `picture CELL`, `check CELL`, `sample N CELL`, `node GRID ROW COL`, `query CELL LON LAT`, `compile GRID SHEET CELL`, `apply BASE UPDATE CELL`, `ground GRID SHEET LON LAT`, `overview GRID SHEET FACTOR CELL` and `route CELL DEPTH LON LAT LON LAT`
abbrev pub command_of : List (List ℕ) → Option Command
command_of (command ∷ file ∷ []) = with_one command file
command_of (command ∷ n ∷ cell ∷ []) = with_two command n cell
command_of (command ∷ file ∷ a ∷ b ∷ []) = with_three command file a b
command_of (command ∷ grid ∷ sheet ∷ a ∷ b ∷ []) = with_four command grid sheet a b
command_of (command ∷ cell ∷ depth ∷ from_lon ∷ from_lat ∷ to_lon ∷ to_lat ∷ []) = with_six command cell depth from_lon from_lat to_lon to_lat
command_of _ = None

-- the name of the cell that a command stores, where it stores one
abbrev pub cell_of : Option Command → Option (List ℕ)
cell_of (Some (make origin cell)) = Some cell
cell_of (Some (revise names cell)) = Some cell
cell_of _ = None

abbrev pub texts : List (String Global) → List (List ℕ)
texts words = map string_bytes words
