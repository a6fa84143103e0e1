-- A mark for each connected node: whether an odd number of ends stands there.
use Rattle.std.specs.Prelude.{ℕ, Bool, false, not, List, map, count_by, slice_index_or, slice_set}
use Rattle.chart_model.specs.Closed.{is_odd_in}
use Rattle.chart_model.specs.Numbers.{connected_numbers}
use Rattle.chart_model.specs.declared.records.Parts.{Parts}

-- the marks of all connected nodes for the ends with these numbers
abbrev pub marks : Parts → List ℕ → List Bool
marks c ns = map (is_odd_in ns) (connected_numbers c)

-- the same marks with the one at a place turned over; past the last nothing changes
abbrev pub turned_at : List Bool → ℕ → List Bool
turned_at odd place = slice_set odd place (not (slice_index_or odd place false))

-- how many marks are set
abbrev pub set_marks : List Bool → ℕ
set_marks odd = count_by (λ b. b) odd
