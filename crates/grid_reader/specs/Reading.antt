-- The grid that a text gives, or its first fault.
use Rattle.std.specs.Prelude.{ℕ, ◌*◌, Bool, true, false, List, length, None, Result, Ok}
use Rattle.depth_grid.specs.Grid.{GridView}
use Rattle.grid_reader.specs.declared.fault.GridFault.{GridFault}
use Rattle.grid_reader.specs.declared.fault.GridFault.TheVariants as fault
use Rattle.grid_reader.specs.declared.found.Found.{Found}
use Rattle.grid_reader.specs.declared.sense.Sense.{Sense}
use Rattle.grid_reader.specs.Words.{Word, words}
use Rattle.readings.specs.Readings.{◌>>=◌, GivesUnless}
use Rattle.grid_reader.specs.Header.{pairs, values, found_from, header_ends}
use Rattle.grid_reader.specs.Shape.{places_found}
use Rattle.grid_reader.specs.Values.{nodata_of, node_depths}

abbrev pub nothing : Found
nothing = record { cols = None; rows = None; x = None; y = None; cell = None; nodata = None }

-- what the header of a text gives
abbrev pub header_of : List ℕ → Result Found GridFault
header_of text = do
  found ← found_from (length text) nothing (pairs (words 0 text))
  end ← header_ends (values (words 0 text))
  Ok found

-- the grid that a header and the words behind it give
abbrev pub grid_behind : Sense → Found → List Word → Result GridView GridFault
grid_behind sense found ws = do
  lines ← places_found found
  depths ← node_depths sense (nodata_of found) (length lines.ys * length lines.xs) ws
  Ok (record { xs = lines.xs; ys = lines.ys; depths = depths })

-- the grid that a text gives: the header first, then what it has to give, then the values
unfoldable pub reading : Sense → List ℕ → Result GridView GridFault
reading sense text = do
  found ← header_of text
  grid_behind sense found (values (words 0 text))

-- want of memory, which no text gives
abbrev pub is_memory : GridFault → Bool
is_memory fault.NoMemory = true
is_memory e = false

-- what a function returned, seen by view, is what the definition gives, unless memory ran out
abbrev pub Gives : {X Y : Type 0} → (X → Y) → Result X GridFault → Result Y GridFault → Type 0
Gives view result read = GivesUnless is_memory view result read
