use Rattle.std.proofs.Common.{◌∙◌, ap}
use Rattle.boundary_arcs.specs.Views.{arcs_view}
use Rattle.boundary_arcs.specs.declared.arc.Arc.{Arc}
use Rattle.ring_builder.proofs.AreaSums.{back_area}
use Rattle.ring_builder.proofs.areas.part_area.Goals as goal

pub returns-else-part-clause-value : goal.returns-else-part-clause-value
returns-else-part-clause-value c =
    back_area (arcs_view c.args.arcs.now).arcs c.args.part c.as_slice.result.now c.area_along-sum.result c.if-part.false (c.as_slice.ensures ∙ ap (λ (a : Arc). a.points) c.arc.ensures) c.area_along-sum.ensures.value c.area_along-sum.ensures.small
