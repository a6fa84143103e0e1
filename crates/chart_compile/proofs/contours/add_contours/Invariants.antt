use Rattle.std.proofs.Common.{◌≡◌, ◌+◌, ◌≤◌, length}
use Rattle.std.specs.List.{flat_map, range_with_len}
use Rattle.boundary_arcs.specs.Edges.{arc_of}
use Rattle.chart_compile.specs.Topology.{arcs_in, faces_in, levels_in}
use Rattle.built_parts.specs.Contours.{contour_at}
use Rattle.built_parts.specs.Contents.{Adds}
use Rattle.chart_compile.proofs.contours.add_contours.Given as goal

abbrev pub invariant-loop-k : goal.invariant-loop-k
invariant-loop-k l = record {
  added : Adds (flat_map (λ k. contour_at (levels_in l.topology) (faces_in l.topology) (arc_of (arcs_in l.topology) k) k) (range_with_len 0 l.k)) l.initial.features.list.items l.features.list.items;
  few : length l.features.list.items ≤ length l.initial.features.list.items + l.k;
  same : l.features.agency ≡ l.initial.features.agency;
}
