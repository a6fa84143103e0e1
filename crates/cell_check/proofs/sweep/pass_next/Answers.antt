use Rattle.std.proofs.Common.{arith}
use Rattle.std.proofs.lemmas.Grind.{common_steps}
use Rattle.cell_check.proofs.Sweeping.{if_ok_both, same_next}
use Rattle.cell_check.proofs.sweep.pass_next.Goals as goal

pub returns : goal.returns
returns c = if_ok_both c.pass.result _ _ _
    (λ b sound same t w. record {
      within = c.if-rising-begun.false;
      sound = sound t w.sound;
      same = same_next c.args.count c.args.rising.now c.args.lo.y c.args.sweep.now.row.items c.pass.new.row.items _ c.args.sweep.now.begun c.args.stretch.begun c.if-begun-sweep.false (grind (arith, common_steps)) (same t) w.same;
    })
    c.pass.ensures.sound c.pass.ensures.same
