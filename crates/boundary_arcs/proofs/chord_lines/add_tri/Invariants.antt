use Rattle.std.proofs.Common.{◌+◌, [], ◌∷◌}
use Rattle.std.specs.List.{range_with_len, flat_map}
use Rattle.boundary_arcs.specs.Collecting.{Adds, chord_seen}
use Rattle.boundary_arcs.proofs.chord_lines.add_tri.Given as goal
use Rattle.face_fill.specs.Views.{faces_view}
use Rattle.tri_mesh.specs.Fields.{field_in}

abbrev pub invariant-loop-i : goal.invariant-loop-i
invariant-loop-i l = Adds l.i l.fn.net l.net (flat_map (λ k. chord_seen (field_in l.ch l.levels) (faces_view l.faces) l.tri k ∷ []) (range_with_len (l.first + 1) l.i))
