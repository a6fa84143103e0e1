use Rattle.std.proofs.Common.{◌+◌, ◌-◌, arith}
use Rattle.face_fill.specs.TallyView.{mesh_by, number_by, parts_of, link_of}
use Rattle.face_fill.proofs.Adding.{range_more}
use Rattle.face_fill.proofs.tally.tally_row.Goals as goal

pub loop-col-preserved : goal.loop-col-preserved
loop-col-preserved c =
    let p = c.args.table.now in
    let col = p.nodes.rect.col in
    range_more (mesh_by p) (number_by p c.args.numbers.now) (λ j. parts_of p (link_of c.args.way c.args.row j)) col (c.loop-col.col - col) c.loop-col.col (c.loop-col.col + 1 - col)
    c.args.tally.now c.loop-col.tally c.tally_link.new.tally c.loop-col.invariant c.tally_link.ensures (omega arith) (omega arith)
