use Rattle.std.proofs.Common.{pos, arith}
use Rattle.std.proofs.lemmas.Int.{ints}
use Rattle.cell_check.specs.declared.order.Height.{Height}
use Rattle.cell_check.proofs.Beginnings.{climb_more}
use Rattle.cell_check.proofs.sweep.ascend.Goals as goal

pub loop-i-preserved : goal.loop-i-preserved
loop-i-preserved c = climb_more (λ (h : Height). h.y) c.args.heights.now c.loop-i.i (record { y = pos 0 }) (record { y = pos 0 }) (omega arith) (omega arith) (let f = c.if-heights-i.false in omega (arith, ints)) c.loop-i.invariant
