use Rattle.std.proofs.Common.{◌*◌}
use Rattle.std.specs.List.{range_with_len, flat_map}
use Rattle.boundary_arcs.specs.Collecting.{Adds, link_at, link_drawn}
use Rattle.boundary_arcs.proofs.link_parts.add_row.Given as goal
use Rattle.face_fill.specs.Views.{faces_view}
use Rattle.tri_mesh.specs.Fields.{field_in}

abbrev pub invariant-loop-col : goal.invariant-loop-col
invariant-loop-col l = Adds (21 * l.col) l.fn.net l.net (flat_map (λ j. link_drawn (field_in l.ch l.levels) (faces_view l.faces) (link_at l.way l.row j)) (range_with_len 0 l.col))
