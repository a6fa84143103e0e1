use Rattle.std.proofs.Common.{arith}
use Rattle.std.proofs.lemmas.Int.{ints}
use Rattle.cell_check.proofs.Beginnings.{order_more}
use Rattle.cell_check.proofs.sweep.begin_in_order.Goals as goal

pub loop-i-preserved : goal.loop-i-preserved
loop-i-preserved c = order_more c.args.rising.now c.loop-i.i c.from_below.result c.from_below-in-loop-i.result _ _ (omega arith) (omega arith) c.from_below.ensures c.from_below-in-loop-i.ensures (let f = c.if-from_below.false in omega (arith, ints)) c.loop-i.invariant
