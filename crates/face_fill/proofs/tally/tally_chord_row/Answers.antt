use Rattle.std.proofs.Common.{◌+◌, ◌-◌, ◌++◌, true, false, sym, ap, arith}
use Rattle.std.proofs.lemmas.List.{append-nil}
use Rattle.face_fill.specs.Items.{tri_of}
use Rattle.face_fill.specs.TallyView.{mesh_by, number_by, cell_chords, chords_of}
use Rattle.face_fill.proofs.Adding.{range_more, adds_then, adds_same}
use Rattle.face_fill.proofs.tally.tally_chord_row.Goals as goal

pub loop-col-preserved : goal.loop-col-preserved
loop-col-preserved c =
    let p = c.args.table.now in
    let col = p.nodes.rect.col in
    let upper = chords_of p (tri_of c.args.row c.loop-col.col true) in
    let lower = chords_of p (tri_of c.args.row c.loop-col.col false) in
    let m = mesh_by p in
    let number = number_by p c.args.numbers.now in
    let both = adds_same m number (upper ++ lower) (cell_chords p c.args.row c.loop-col.col) c.loop-col.tally c.tally_tri-in-loop-col.new.tally (sym (ap (λ xs. upper ++ xs) (append-nil lower)))
    (adds_then m number upper lower c.loop-col.tally c.tally_tri.new.tally c.tally_tri-in-loop-col.new.tally c.tally_tri.ensures c.tally_tri-in-loop-col.ensures) in
    range_more m number (cell_chords p c.args.row) col (c.loop-col.col - col) c.loop-col.col (c.loop-col.col + 1 - col)
    c.args.tally.now c.loop-col.tally c.tally_tri-in-loop-col.new.tally c.loop-col.invariant both (omega arith) (omega arith)
