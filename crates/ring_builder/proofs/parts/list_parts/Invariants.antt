use Rattle.std.proofs.Common.{map}
use Rattle.boundary_arcs.specs.Views.{arcs_view}
use Rattle.ring_builder.specs.Lists.{HasParts}
use Rattle.ring_builder.specs.Parts.{numbers}
use Rattle.ring_builder.proofs.parts.list_parts.Given as goal

abbrev pub invariant-loop-n : goal.invariant-loop-n
invariant-loop-n l = HasParts (arcs_view l.arcs).arcs (numbers l.owners) l.sets l.n (map (λ v. v.items) l.lists.items)
