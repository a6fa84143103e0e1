use Rattle.std.proofs.Common.{◌≡◌, map, take}
use Rattle.boundary_arcs.specs.Views.{arcs_view}
use Rattle.ring_builder.specs.Parts.{hop_of}
use Rattle.ring_builder.proofs.cutting.put_hops.Given as goal

abbrev pub invariant-loop-part : goal.invariant-loop-part
invariant-loop-part l = l.hops.items ≡ map (hop_of (arcs_view l.arcs).arcs) (take l.part-index l.parts)
