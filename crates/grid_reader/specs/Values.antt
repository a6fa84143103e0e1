-- The values of nodes.
use Rattle.std.specs.Prelude.{codes, ℕ, ℤ, pos, neg_ℤ, Bool, false, ◌&&◌, int_le, nat_lt, List, [], ◌∷◌, length, take, drop, Option, Some, None, unwrap_or, Result, Ok, Err, if◌then◌else◌}
use Rattle.exact_num.specs.Number.{Number, opposite}
use Rattle.exact_num.specs.Text.{number_of}
use Rattle.exact_num.specs.Value.{floor_at, same_value}
use Rattle.grid_reader.specs.declared.fault.GridFault.{GridFault}
use Rattle.grid_reader.specs.declared.fault.GridFault.TheVariants as fault
use Rattle.grid_reader.specs.declared.sense.Sense.{Sense}
use Rattle.grid_reader.specs.declared.sense.Sense.TheVariants.{Down, Up}
use Rattle.grid_reader.specs.declared.found.Found.{Found}
use Rattle.grid_reader.specs.Words.{Word}
use Rattle.grid_reader.specs.Marks.{Mark, mark_of}
use Rattle.readings.specs.Readings.{◌>>=◌}

-- the no-data value: where none is given, -9999
abbrev pub nodata_of : Found → Mark
nodata_of f = unwrap_or f.nodata (number_of (codes "-9999"))

abbrev pub is_nodata : Mark → Number → Bool
is_nodata None n = false
is_nodata (Some m) n = same_value m n

-- the number, positive downwards
abbrev pub downwards : Sense → Number → Number
downwards Down n = n
downwards Up n = opposite n

-- a depth in millimetres within 12,000 metres
abbrev pub limited : ℕ → ℤ → Result (Option ℤ) GridFault
limited at z = if int_le (neg_ℤ (pos 12000000)) z && int_le z (pos 12000000) then Ok (Some z) else Err (fault.Depth at)

abbrev pub depth_from : Sense → Mark → ℕ → Option Mark → Result (Option ℤ) GridFault
depth_from sense nodata at None = Err (fault.Number at)
depth_from sense nodata at (Some None) = Ok None
depth_from sense nodata at (Some (Some n)) = if is_nodata nodata n then Ok None else limited at (floor_at (downwards sense n) 3)

abbrev pub depth_of : Sense → Mark → Word → Result (Option ℤ) GridFault
depth_of sense nodata w = depth_from sense nodata w.at (mark_of w.bytes)

-- the depths of words, or the first fault
abbrev pub depths_of : Sense → Mark → List Word → Result (List (Option ℤ)) GridFault
depths_of sense nodata [] = Ok []
depths_of sense nodata (w ∷ ws) = do
  d ← depth_of sense nodata w
  ds ← depths_of sense nodata ws
  Ok (d ∷ ds)

-- so many words, and none behind them
abbrev pub just : ℕ → ℕ → List Word → List (Option ℤ) → Result (List (Option ℤ)) GridFault
just found nodes [] ds = if nat_lt found nodes then Err (fault.TooFew found) else Ok ds
just found nodes (w ∷ ws) ds = Err (fault.Trailing w.at)

-- the depths of so many nodes
abbrev pub node_depths : Sense → Mark → ℕ → List Word → Result (List (Option ℤ)) GridFault
node_depths sense nodata nodes ws = do
  ds ← depths_of sense nodata (take nodes ws)
  just (length ws) nodes (drop nodes ws) ds
