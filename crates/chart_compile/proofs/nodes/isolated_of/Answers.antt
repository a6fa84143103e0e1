use Rattle.std.proofs.Common.{◌+◌, ◌∙◌, ap}
use Rattle.chart_compile.proofs.Placing.{pushed}
use Rattle.built_parts.specs.Nodes.{isolated_record, nodes_in}
use Rattle.shoal_buffer.specs.Views.{charted_view}
use Rattle.chart_compile.proofs.nodes.isolated_of.Goals as goal

pub loop-place-preserved : goal.loop-place-preserved
loop-place-preserved c =
    let v = charted_view c.args.ch.now in
    pushed (λ k. isolated_record v (k + 1) (nodes_in c.args.nodes.now k)) c.loop-place.place c.loop-place.list.items c.push.new.self.items _ c.in_ok-push.ensures.items c.loop-place.invariant
    (c.in_ok-isolated.ensures ∙ ap (λ z. isolated_record v (c.loop-place.place + 1) z) c.nodes_at.ensures)
