use Rattle.std.proofs.Common.{◌≡◌, None, take}
use Rattle.std.specs.List.{flat_map}
use Rattle.chart_model.specs.References.{lost_of, edge_names}
use Rattle.chart_model.proofs.lost.lost_in_edges.Given as goal

abbrev pub invariant-loop-edge : goal.invariant-loop-edge
invariant-loop-edge l = lost_of l.parts (flat_map edge_names (take l.edge-index l.edges)) ≡ None
