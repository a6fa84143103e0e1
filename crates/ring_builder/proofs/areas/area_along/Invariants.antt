use Rattle.std.proofs.Common.{◌≡◌, ◌≤◌, ◌*◌, ◌^◌, take, unsigned_abs}
use Rattle.mesh_definitions.specs.Rings.{area_sum}
use Rattle.plane_geom.specs.Segments.{joins}
use Rattle.ring_builder.proofs.areas.area_along.Given as goal

abbrev pub invariant-loop-at : goal.invariant-loop-at
invariant-loop-at l = record {
  value : l.sum ≡ area_sum (joins (take l.at l.points));
  small : unsigned_abs l.sum ≤ l.at * 2 ^ 66;
}
