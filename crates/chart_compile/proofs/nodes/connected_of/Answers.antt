use Rattle.std.proofs.Common.{rules, arith}
use Rattle.std.proofs.lemmas.Grind.{common_steps}
use Rattle.chart_compile.proofs.Placing.{pushed}
use Rattle.built_parts.specs.Nodes.{connected_record}
use Rattle.chart_compile.proofs.nodes.connected_of.Goals as goal

pub loop-k-preserved : goal.loop-k-preserved
loop-k-preserved c = pushed (connected_record c.args.nodes.now) c.loop-k.k c.loop-k.list.items c.push.new.self.items _ c.in_ok-push.ensures.items c.loop-k.invariant (first_of (search rules, grind (arith, common_steps)))
