use Rattle.std.proofs.Common.{◌+◌, ◌-◌, arith}
use Rattle.face_fill.specs.TallyView.{mesh_by, number_by, row_chords}
use Rattle.face_fill.proofs.Adding.{range_more}
use Rattle.face_fill.proofs.tally.tally_chords.Goals as goal

pub loop-row-preserved : goal.loop-row-preserved
loop-row-preserved c =
    let p = c.args.table.now in
    let row = p.nodes.rect.row in
    range_more (mesh_by p) (number_by p c.args.numbers.now) (λ i. row_chords p i p.nodes.rect.cols) row (c.loop-row.row - row) c.loop-row.row (c.loop-row.row + 1 - row)
    c.args.tally.now c.loop-row.tally c.tally_chord_row.new.tally c.loop-row.invariant c.tally_chord_row.ensures (omega arith) (omega arith)
