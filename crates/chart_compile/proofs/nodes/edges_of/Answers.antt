use Rattle.boundary_arcs.specs.Views.{arcs_view}
use Rattle.chart_compile.proofs.Placing.{pushed}
use Rattle.built_parts.specs.Nodes.{edge_record}
use Rattle.chart_compile.proofs.nodes.edges_of.Goals as goal

pub loop-k-preserved : goal.loop-k-preserved
loop-k-preserved c = pushed (edge_record (arcs_view c.args.arcs.now).arcs) c.loop-k.k c.loop-k.list.items c.push.new.self.items _ c.in_ok-push.ensures.items c.loop-k.invariant c.in_ok-edge.ensures
