use Rattle.std.proofs.Common.{◌≡◌, ◌+◌, map}
use Rattle.std.specs.List.{range_with_len}
use Rattle.built_parts.specs.Nodes.{isolated_record, nodes_in}
use Rattle.shoal_buffer.specs.Views.{charted_view}
use Rattle.chart_compile.proofs.nodes.isolated_of.Given as goal

abbrev pub invariant-loop-place : goal.invariant-loop-place
invariant-loop-place l = l.list.items ≡ map (λ k. isolated_record (charted_view l.ch) (k + 1) (nodes_in l.nodes k)) (range_with_len 0 l.place)
