use Rattle.std.proofs.Common.{◌-◌, refl}
use Rattle.cell_check.proofs.Splicing.{keeps_lines}
use Rattle.cell_check.proofs.sweep.find_holders.Goals as goal

pub loop-at-preserved : goal.loop-at-preserved
loop-at-preserved c = keeps_lines c.loop-at.entries c.args.entries.now (c.loop-at.at - 1) _ _ refl c.loop-at.invariant
