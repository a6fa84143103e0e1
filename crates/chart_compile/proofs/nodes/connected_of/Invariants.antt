use Rattle.std.proofs.Common.{◌≡◌, map}
use Rattle.std.specs.List.{range_with_len}
use Rattle.built_parts.specs.Nodes.{connected_record}
use Rattle.chart_compile.proofs.nodes.connected_of.Given as goal

abbrev pub invariant-loop-k : goal.invariant-loop-k
invariant-loop-k l = l.list.items ≡ map (connected_record l.nodes) (range_with_len 0 l.k)
