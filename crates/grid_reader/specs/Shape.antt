-- What a header says of a grid: its sides, and where its columns and rows lie.
use Rattle.std.specs.Prelude.{ℕ, ◌*◌, ◌^◌, ℤ, pos, ◌+ℤ◌, ◌*ℤ◌, Bool, ◌&&◌, nat_le, int_le, unsigned_abs, List, map, reverse, Option, Some, None, Result, Ok, Err, if◌then◌else◌, ◌<◌, ◌≤ℤ◌, length}
use Rattle.std.specs.List.{list_all, range_with_len}
use Rattle.exact_num.specs.Value.{floor_at, whole_of}
use Rattle.depth_grid.specs.Grid.{place}
use Rattle.depth_grid.specs.Snap.{snapped}
use Rattle.grid_reader.specs.declared.fault.GridFault.{GridFault}
use Rattle.grid_reader.specs.declared.fault.GridFault.TheVariants as fault
use Rattle.grid_reader.specs.declared.key.GridKey.{GridKey}
use Rattle.grid_reader.specs.declared.key.GridKey.TheVariants as grid_key
use Rattle.grid_reader.specs.declared.found.Found.{Found}
use Rattle.grid_reader.specs.declared.found.Needs.{Needs}
use Rattle.grid_reader.specs.declared.found.Origin.{Origin}
use Rattle.readings.specs.Readings.{◌>>=◌}

-- the value of a key that has to be there
abbrev pub needed : {A : Type 0} → GridKey → Option A → Result A GridFault
needed key None = Err (fault.Missing key)
needed key (Some x) = Ok x

-- 2 to 1,025 nodes
abbrev pub side_from : GridKey → Option ℤ → Result ℕ GridFault
side_from key (Some (pos n)) = if nat_le 2 n && nat_le n 1025 then Ok n else Err (fault.Side key)
side_from key _ = Err (fault.Side key)

-- a cell size of 10^-5 to 1 degree, in units of 10^-24 degree
abbrev pub cell_from : ℤ → Result ℤ GridFault
cell_from z = if int_le (pos (10 ^ 19)) z && int_le z (pos (10 ^ 24)) then Ok z else Err fault.CellSize

-- twice the position of the westmost column or the southmost row, in units of 10^-24 degree: a corner lies half a cell before it
abbrev pub doubled : Origin → ℤ → ℤ
doubled o cell = pos 2 *ℤ floor_at o.value 24 +ℤ (if o.corner then cell else pos 0)

-- the position so many cells further, doubled, and snapped
abbrev pub further : ℤ → ℤ → ℕ → ℤ
further origin cell cells = origin +ℤ pos (2 * cells) *ℤ cell

abbrev pub position : ℤ → ℤ → ℕ → ℤ
position origin cell cells = snapped (further origin cell cells)

abbrev pub positions : ℤ → ℤ → ℕ → List ℤ
positions origin cell count = map (position origin cell) (range_with_len 0 count)

-- at most so far from 0
abbrev pub is_within : ℕ → ℤ → Bool
is_within most z = nat_le (unsigned_abs z) most

abbrev pub all_within : ℕ → List ℤ → Bool
all_within most zs = list_all (is_within most) zs

abbrev pub positions_within : ℕ → ℤ → ℤ → ℕ → Result (List ℤ) GridFault
positions_within most origin cell count = if all_within most (positions origin cell count) then Ok (positions origin cell count) else Err fault.Position

abbrev pub needs_of : Found → Result Needs GridFault
needs_of f = do
  cols ← needed grid_key.Ncols f.cols
  rows ← needed grid_key.Nrows f.rows
  x ← needed grid_key.X f.x
  y ← needed grid_key.Y f.y
  cell ← needed grid_key.CellSize f.cell
  Ok (record { cols = cols; rows = rows; x = x; y = y; cell = cell })

-- the columns' positions from west to east, and the rows' from north to south
pub record Lines : Type 0 where
  pub xs : List ℤ
  pub ys : List ℤ

abbrev pub places_of : Needs → Result Lines GridFault
places_of n = do
  cols ← side_from grid_key.Ncols (whole_of n.cols)
  rows ← side_from grid_key.Nrows (whole_of n.rows)
  cell ← cell_from (floor_at n.cell 24)
  xs ← positions_within 1800000000 (doubled n.x cell) cell cols
  ys ← positions_within 900000000 (doubled n.y cell) cell rows
  Ok (record { xs = xs; ys = reverse ys })

abbrev pub places_found : Found → Result Lines GridFault
places_found f = needs_of f >>= places_of

-- each position is 96 units or more past those before it, going up or going down
abbrev pub StepsUp : List ℤ → Type 0
StepsUp zs = (i k : ℕ) → i < k → k < length zs → (place zs i +ℤ pos 96) ≤ℤ place zs k

abbrev pub StepsDown : List ℤ → Type 0
StepsDown zs = (i k : ℕ) → i < k → k < length zs → (place zs k +ℤ pos 96) ≤ℤ place zs i
