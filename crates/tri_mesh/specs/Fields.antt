-- The field that a generalised grid and levels of the code stand for.
use Rattle.std.specs.Prelude.{ℕ, ◌&&◌, cond, is_some}
use Rattle.mesh_definitions.specs.Cuts.{Slope, slope, crossing_count}
use Rattle.mesh_definitions.specs.Field.{Field, field_of}
use Rattle.depth_grid.specs.declared.node.NodeId.{NodeId}
use Rattle.depth_rounding.specs.Views.{levels_view}
use Rattle.depth_rounding.specs.declared.levels.Levels.{Levels}
use Rattle.shoal_buffer.specs.Views.{charted_view}
use Rattle.shoal_buffer.specs.declared.charted.Charted.{Charted}

abbrev pub field_in : Charted → Levels → Field
field_in ch levels = field_of (charted_view ch) (levels_view levels)

-- the slope from one node up to another
abbrev pub upwards : NodeId → NodeId → Slope
upwards u v = record { u = u; v = v }

-- how many levels cross a slope, 0 where an end has no data
abbrev pub crossed : Field → Slope → ℕ
crossed f s = cond (is_some (f.depth s.u) && is_some (f.depth s.v)) (crossing_count f s) 0

-- how many levels cross the line between two nodes
abbrev pub slot_count : Field → NodeId → NodeId → ℕ
slot_count f a b = crossed f (slope f a b)
