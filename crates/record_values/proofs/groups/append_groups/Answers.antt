use Rattle.record_values.proofs.Steps.{each_appended}
use Rattle.record_values.proofs.groups.append_groups.Goals as goal

pub loop-k-preserved : goal.loop-k-preserved
loop-k-preserved g c = each_appended (g.G.Group.at c.args.body.now) c.loop-k.k _ _ _ c.read.result c.loop-k.invariant c.read.ensures c.in_ok-append_some.ensures
