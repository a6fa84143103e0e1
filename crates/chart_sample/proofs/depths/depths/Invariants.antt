use Rattle.std.proofs.Common.{◌≡◌, map}
use Rattle.std.specs.List.{range_with_len}
use Rattle.chart_sample.specs.Depths.{node_depth}
use Rattle.chart_sample.proofs.depths.depths.Given as goal

abbrev pub invariant-loop-node : goal.invariant-loop-node
invariant-loop-node l = l.depths.items ≡ map (node_depth l.n l.cols) (range_with_len 0 l.node)
