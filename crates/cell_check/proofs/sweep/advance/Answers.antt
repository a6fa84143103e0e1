use Rattle.std.proofs.Common.{arith}
use Rattle.cell_check.specs.Sweeps.{IsSweep}
use Rattle.cell_check.proofs.Endings.{end_at_most}
use Rattle.cell_check.proofs.sweep.advance.Goals as goal

pub returns : goal.returns
returns c few old =
    let w : IsSweep c.args.count c.args.rising.now c.args.lo.y c.loop-at.sweep = c.loop-at.invariant old in
    record {
      sweep = record { within = w.within; sound = w.sound; same = w.same };
      first = c.all_begun.ensures c.if-not-all_begun.false c.requires.order;
      rest = c.none_begun.ensures c.if-not-none_begun.false c.requires.order;
      few = (let h = c.is_few.ensures few in let l = c.len.ensures in omega (arith, h, l));
      ended = end_at_most c.args.rising.now c.args.tops.now c.first_above-sweep.result c.args.lo.y c.requires.tops c.requires.ascend c.first_above-sweep.ensures.within c.first_above-sweep.ensures.above;
    }
