use Rattle.std.proofs.Common.{◌*◌}
use Rattle.std.specs.List.{range_with_len, flat_map}
use Rattle.boundary_arcs.specs.Collecting.{Adds, cells_drawn}
use Rattle.boundary_arcs.proofs.chord_lines.add_chords.Given as goal
use Rattle.face_fill.specs.Views.{faces_view}
use Rattle.tri_mesh.specs.Fields.{field_in}

abbrev pub invariant-loop-row : goal.invariant-loop-row
invariant-loop-row l = Adds (40960 * l.row) l.fn.net l.net (flat_map (cells_drawn (field_in l.ch l.levels) (faces_view l.faces) l.cols) (range_with_len 0 l.row))
