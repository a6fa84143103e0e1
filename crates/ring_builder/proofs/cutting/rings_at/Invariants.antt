use Rattle.std.proofs.Common.{map, take}
use Rattle.boundary_arcs.specs.Views.{arcs_view}
use Rattle.ring_builder.specs.Lists.{HavePlaces}
use Rattle.ring_builder.proofs.cutting.rings_at.Given as goal

abbrev pub invariant-loop-places : goal.invariant-loop-places
invariant-loop-places l = HavePlaces (arcs_view l.arcs).arcs l.parts (map (λ v. v.items) (take l.places-index l.cut)) l.rings.items
