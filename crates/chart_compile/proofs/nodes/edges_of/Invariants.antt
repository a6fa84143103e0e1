use Rattle.std.proofs.Common.{◌≡◌, map}
use Rattle.std.specs.List.{range_with_len}
use Rattle.boundary_arcs.specs.Views.{arcs_view}
use Rattle.built_parts.specs.Nodes.{edge_record}
use Rattle.chart_compile.proofs.nodes.edges_of.Given as goal

abbrev pub invariant-loop-k : goal.invariant-loop-k
invariant-loop-k l = l.list.items ≡ map (edge_record (arcs_view l.arcs).arcs) (range_with_len 0 l.k)
