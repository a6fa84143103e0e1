use Rattle.std.proofs.Common.{not}
use Rattle.chart_model.proofs.Finding.{find_goes, find_stops}
use Rattle.chart_model.specs.References.{stands, edge_names}
use Rattle.chart_model.specs.declared.lost.Name.{Name}
use Rattle.chart_model.proofs.lost.lost_in_edges.Goals as goal

pub returns-in-Some : goal.returns-in-Some
returns-in-Some c = find_stops (λ (n : Name). not (stands c.args.parts.now n)) edge_names c.args.parts.now.edges c.as_slice-edges.result.now c.loop-edge.edge-index _ _ _ c.as_slice-edges.ensures c.loop-edge-test.true c.edge-item.is c.loop-edge.invariant c.lost_of_edge.ensures _ c.in-Some.is

pub loop-edge-preserved : goal.loop-edge-preserved
loop-edge-preserved c = find_goes (λ (n : Name). not (stands c.args.parts.now n)) edge_names c.args.parts.now.edges c.as_slice-edges.result.now c.loop-edge.edge-index _ _ _ c.as_slice-edges.ensures c.loop-edge-test.true c.edge-item.is c.loop-edge.invariant c.lost_of_edge.ensures c.in_default.is
