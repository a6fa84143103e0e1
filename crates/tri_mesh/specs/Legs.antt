-- Points on lines in equal steps, and the legs on which a triangle crosses a level.
use Rattle.std.specs.Prelude.{ℕ, ℤ, pos, ◌+◌, ◌+ℤ◌, ◌-ℤ◌, ◌*ℤ◌, int_div, nat_lt, nat_le, ◌&&◌, cond}
use Rattle.mesh_definitions.specs.Cuts.{Slope, crossing}
use Rattle.mesh_definitions.specs.Field.{Field}
use Rattle.depth_grid.specs.Grid.{GridView, place}
use Rattle.depth_grid.specs.declared.node.NodeId.{NodeId}
use Rattle.plane_geom.specs.declared.Point.{Point}
use Rattle.plane_geom.specs.declared.Seg.{Seg}
use Rattle.tri_mesh.specs.declared.chords.Leg.{Leg}
use Rattle.tri_mesh.specs.declared.chords.CoordinateSteps.{CoordinateSteps}
use Rattle.tri_mesh.specs.declared.corners.Corners.{Corners}

-- the coordinate at a slot of a line
abbrev pub along_line : CoordinateSteps → ℕ → ℤ
along_line l slot = l.from +ℤ pos slot *ℤ int_div (l.to -ℤ l.from) (pos l.steps)

-- where a node of a grid stands
abbrev pub spot : GridView → NodeId → Point
spot g n = record { x = place g.xs n.col; y = place g.ys n.row }

-- the part of a slope in a band, from the shoaler end to the deeper one
abbrev pub part_of : Field → Slope → ℕ → Seg
part_of f s b = record { a = crossing f s b; b = crossing f s (b + 1) }

abbrev pub leg_of : NodeId → NodeId → ℕ → Leg
leg_of u v b = record { u = u; v = v; band = b }

-- the leg on which the walk round a triangle crosses level k going deeper, and the one on which it comes back
abbrev pub entering_leg : Corners NodeId → Corners ℕ → ℕ → Leg
entering_leg at bands k =
    cond (nat_lt bands.first k && nat_le k bands.second) (leg_of at.first at.second bands.first)
    (cond (nat_lt bands.second k && nat_le k bands.third) (leg_of at.second at.third bands.second) (leg_of at.third at.first bands.third))

abbrev pub leaving_leg : Corners NodeId → Corners ℕ → ℕ → Leg
leaving_leg at bands k =
    cond (nat_le k bands.first && nat_lt bands.second k) (leg_of at.second at.first bands.second)
    (cond (nat_le k bands.second && nat_lt bands.third k) (leg_of at.third at.second bands.third) (leg_of at.first at.third bands.first))
