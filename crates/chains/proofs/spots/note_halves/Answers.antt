use Rattle.std.proofs.Common.{arith}
use Rattle.chains.proofs.Noting.{line_noted}
use Rattle.chains.proofs.spots.note_halves.Goals as goal

pub loop-i-preserved : goal.loop-i-preserved
loop-i-preserved c =
    let i = c.loop-i.i in
    line_noted c.args.lines.now c.args.points i c.loop-i.spots.items c.note.new.spots.items c.note-in-loop-i.new.spots.items c.loop-i.invariant (c.requires.begin_inside i (omega arith)) (c.requires.end_inside i (omega arith)) c.begin_of.result c.begin_of-in-loop-i.result c.begin_of.ensures c.begin_of-in-loop-i.ensures c.note.ensures c.note-in-loop-i.ensures
