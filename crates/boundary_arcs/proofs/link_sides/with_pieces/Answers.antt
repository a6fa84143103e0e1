use Rattle.std.proofs.Common.{Some, sym, ap, ◌∙◌}
use Rattle.std.specs.Prelude.{option_map}
use Rattle.boundary_arcs.specs.Collecting.{beside_of}
use Rattle.boundary_arcs.proofs.Sides.{pieces_known}
use Rattle.boundary_arcs.proofs.link_sides.with_pieces.Goals as goal
use Rattle.tri_mesh.specs.Fields.{field_in}

pub returns-in-Some : goal.returns-in-Some
returns-in-Some c =
    let f = field_in c.args.ch.now c.args.levels.now in
    let p = c.pieces.ensures in
    ap Some (pieces_known f c.in-Some.tri c.pieces.result p.surveyed p.first p.exact) ∙ ap (option_map (beside_of f)) (sym c.in-Some.is)
