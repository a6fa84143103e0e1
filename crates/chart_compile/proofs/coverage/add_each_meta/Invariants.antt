use Rattle.std.proofs.Common.{◌≡◌, ◌+◌, ◌≤◌, length, map}
use Rattle.std.specs.List.{range_with_len}
use Rattle.chart_compile.specs.Topology.{arcs_in, faces_in}
use Rattle.built_parts.specs.Areas.{block_content, rings_in}
use Rattle.built_parts.specs.Contents.{Adds}
use Rattle.chart_compile.proofs.coverage.add_each_meta.Given as goal

abbrev pub invariant-loop-block : goal.invariant-loop-block
invariant-loop-block l = record {
  added : Adds (map (λ k. block_content l.meta.objl l.meta.code l.meta.value (faces_in l.topology) (arcs_in l.topology) (rings_in (map (λ v. v.items) l.rings) k)) (range_with_len 0 l.block)) l.initial.features.list.items l.features.list.items;
  few : length l.features.list.items ≤ length l.initial.features.list.items + l.block;
  same : l.features.agency ≡ l.initial.features.agency;
}
