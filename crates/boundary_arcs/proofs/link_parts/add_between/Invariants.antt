use Rattle.std.specs.List.{range_with_len, flat_map}
use Rattle.boundary_arcs.specs.Collecting.{Adds, if_drawn, part_seen}
use Rattle.boundary_arcs.proofs.link_parts.add_between.Given as goal
use Rattle.face_fill.specs.Views.{faces_view}
use Rattle.tri_mesh.specs.Fields.{field_in}

abbrev pub invariant-loop-i : goal.invariant-loop-i
invariant-loop-i l = Adds l.i l.fn.net l.net (flat_map (λ b. if_drawn (part_seen (field_in l.ch l.levels) (faces_view l.faces) l.link b)) (range_with_len l.parts.first l.i))
