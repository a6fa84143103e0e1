use Rattle.std.proofs.Common.{arith}
use Rattle.boundary_arcs.proofs.Chording.{has_side_pieces}
use Rattle.boundary_arcs.proofs.chord_lines.add_chord.Goals as goal
use Rattle.face_fill.specs.Views.{faces_view}
use Rattle.tri_mesh.specs.Fields.{field_in}

pub face_of-requires-clause-piece : goal.face_of-requires-clause-piece
face_of-requires-clause-piece c =
    let rows = c.requires.fits.rows in
    let cols = c.requires.fits.cols in
    (has_side_pieces (field_in c.args.ch.now c.args.levels.now) (faces_view c.args.faces.now) c.args.tri c.args.first c.args.k c.requires.fits (omega (arith, rows, c.requires.row)) (omega (arith, cols, c.requires.col)) c.requires.first c.requires.crosses).shoaler

pub face_of-requires-2-clause-piece : goal.face_of-requires-2-clause-piece
face_of-requires-2-clause-piece c =
    let rows = c.requires.fits.rows in
    let cols = c.requires.fits.cols in
    (has_side_pieces (field_in c.args.ch.now c.args.levels.now) (faces_view c.args.faces.now) c.args.tri c.args.first c.args.k c.requires.fits (omega (arith, rows, c.requires.row)) (omega (arith, cols, c.requires.col)) c.requires.first c.requires.crosses).deeper
