use Rattle.std.proofs.Common.{◌≡◌, length, map}
use Rattle.boundary_arcs.specs.Views.{arcs_view}
use Rattle.ring_builder.specs.Parts.{numbers}
use Rattle.ring_builder.specs.Rings.{HasRings}
use Rattle.ring_builder.proofs.sets.set_rings.Given as goal

abbrev pub invariant-loop-parts : goal.invariant-loop-parts
invariant-loop-parts l = record {
  rings : HasRings (arcs_view l.arcs).arcs (numbers l.owners) l.parts-index (map (λ v. v.items) l.all.items);
  wide : l.cutter ≡ length (arcs_view l.arcs).nodes;
}
