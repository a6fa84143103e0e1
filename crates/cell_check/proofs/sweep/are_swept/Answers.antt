use Rattle.std.proofs.Common.{◌-◌, pos, get_or, arith}
use Rattle.std.proofs.lemmas.Int.{ints}
use Rattle.cell_check.specs.Sweeps.{IsSwept}
use Rattle.cell_check.proofs.Sweeping.{next_sweep, next_found}
use Rattle.cell_check.proofs.sweep.are_swept.Goals as goal

pub loop-i-preserved-then-hi-lo : goal.loop-i-preserved-then-hi-lo
loop-i-preserved-then-hi-lo c = record {
  sweep = next_sweep c.args.count c.args.rising.now c.args.heights.now c.requires.ascend c.loop-i.i (omega arith) (omega arith) c.loop-i.sweep (record { y = pos 0 }) (c.loop-i.invariant.sweep (record { y = pos 0 }) (omega arith));
  found = next_found c.args.count c.args.rising.now c.args.heights.now c.requires.ascend c.loop-i.i (omega arith) (omega arith) c.loop-i.invariant.found (record { y = pos 0 }) (record { y = pos 0 }) (λ l. let e = c.if-hi-lo.true in absurd (omega (arith, ints, l, e)));
}

pub loop-i-preserved : goal.loop-i-preserved
loop-i-preserved c =
    let swept : IsSwept c.args.count c.args.rising.now (get_or c.args.heights.now (c.loop-i.i - 1) (record { y = pos 0 })).y c.advance.new.sweep = c.in_ok-advance.ensures c.if-not-branch.false (c.loop-i.invariant.sweep (record { y = pos 0 }) (omega arith)) in
    record {
      sweep = next_sweep c.args.count c.args.rising.now c.args.heights.now c.requires.ascend c.loop-i.i (omega arith) (omega arith) c.advance.new.sweep (record { y = pos 0 }) swept.sweep;
      found = next_found c.args.count c.args.rising.now c.args.heights.now c.requires.ascend c.loop-i.i (omega arith) (omega arith) c.loop-i.invariant.found (record { y = pos 0 }) (record { y = pos 0 }) (λ l. record { sweep = c.advance.new.sweep; is = swept });
    }

pub returns : goal.returns
returns c = λ t k d h l. c.loop-i.invariant.found k d (omega arith) l
