use Rattle.std.proofs.Common.{refl, arith}
use Rattle.boundary_arcs.proofs.Counted.{counted_more}
use Rattle.chains.specs.Nets.{line_at}
use Rattle.boundary_arcs.proofs.closed_chains.count_ends.Goals as goal

pub loop-i-preserved : goal.loop-i-preserved
loop-i-preserved c =
    let i = c.loop-i.i in
    counted_more c.args.lines.now c.args.points i c.loop-i.ends.items c.count_end.new.ends.items c.count_end-in-loop-i.new.ends.items (line_at c.args.lines.now i) c.loop-i.invariant (omega arith) refl (c.requires.begin_inside i (omega arith)) (c.requires.end_inside i (omega arith)) c.count_end.ensures c.count_end-in-loop-i.ensures
