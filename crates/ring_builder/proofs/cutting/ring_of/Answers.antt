use Rattle.std.proofs.Common.{◌∙◌, All, subst, sym}
use Rattle.boundary_arcs.specs.Views.{arcs_view}
use Rattle.ring_builder.proofs.Places.{picked_known}
use Rattle.ring_builder.proofs.cutting.ring_of.Goals as goal
use Rattle.ring_builder.specs.Lists.{IsPart}

pub area-exterior-requires-clause-known : goal.area-exterior-requires-clause-known
area-exterior-requires-clause-known c =
    let arcs = (arcs_view c.args.arcs.now).arcs in
    subst (All (IsPart arcs)) (sym (c.deref.ensures.value ∙ c.in_ok-picked.ensures)) (picked_known arcs c.args.parts.now c.args.places.now c.requires.known c.requires.inside)
