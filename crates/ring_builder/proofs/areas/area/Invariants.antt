use Rattle.std.proofs.Common.{◌≡◌, ◌≤◌, ◌*◌, ◌^◌, take, unsigned_abs, flat_map}
use Rattle.mesh_definitions.specs.Rings.{area_sum}
use Rattle.boundary_arcs.specs.Views.{arcs_view}
use Rattle.ring_builder.specs.Parts.{part_segments}
use Rattle.ring_builder.proofs.areas.area.Given as goal

abbrev pub invariant-loop-part : goal.invariant-loop-part
invariant-loop-part l = record {
  value : l.sum ≡ area_sum (flat_map (part_segments (arcs_view l.arcs).arcs) (take l.part-index l.parts));
  small : unsigned_abs l.sum ≤ l.part-index * 2 ^ 94;
}
