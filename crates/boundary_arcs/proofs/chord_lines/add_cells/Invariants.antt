use Rattle.std.proofs.Common.{◌*◌}
use Rattle.std.specs.List.{range_with_len, flat_map}
use Rattle.boundary_arcs.specs.Collecting.{Adds, cell_drawn}
use Rattle.boundary_arcs.proofs.chord_lines.add_cells.Given as goal
use Rattle.face_fill.specs.Views.{faces_view}
use Rattle.tri_mesh.specs.Fields.{field_in}

abbrev pub invariant-loop-col : goal.invariant-loop-col
invariant-loop-col l = Adds (40 * l.col) l.fn.net l.net (flat_map (cell_drawn (field_in l.ch l.levels) (faces_view l.faces) l.row) (range_with_len 0 l.col))
