use Rattle.std.proofs.Common.{◌≡◌, ◌+◌, ◌≤◌, length, map}
use Rattle.std.specs.List.{range_with_len}
use Rattle.chart_compile.specs.Topology.{arcs_in, faces_in, levels_in}
use Rattle.built_parts.specs.Areas.{area_content, rings_in}
use Rattle.built_parts.specs.Contents.{Adds}
use Rattle.face_fill.specs.Numbered.{class_of}
use Rattle.chart_compile.proofs.areas.add_each_area.Given as goal

abbrev pub invariant-loop-face : goal.invariant-loop-face
invariant-loop-face l = record {
  added : Adds (map (λ k. area_content (levels_in l.topology) l.extent.least l.extent.greatest (faces_in l.topology) (arcs_in l.topology) (class_of (faces_in l.topology) k) (rings_in (map (λ v. v.items) l.rings) k)) (range_with_len 0 l.face)) l.initial.features.list.items l.features.list.items;
  few : length l.features.list.items ≤ length l.initial.features.list.items + l.face;
  same : l.features.agency ≡ l.initial.features.agency;
}
