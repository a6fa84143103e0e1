use Rattle.std.proofs.Common.{Global, List, Vec, map, subst, sym}
use Rattle.chart_compile.proofs.Inside.{rings_inside}
use Rattle.chart_compile.specs.Topology.{arcs_in}
use Rattle.ring_builder.specs.Rings.{HasRings}
use Rattle.ring_builder.specs.declared.ring.Ring.{Ring}
use Rattle.chart_compile.proofs.areas.add_areas.Goals as goal

pub add_each_area-requires-clause-inside : goal.add_each_area-requires-clause-inside
add_each_area-requires-clause-inside c =
    let t = c.args.topology.now in
    rings_inside (arcs_in t) (λ face. face) t.arcs.now.faces (map (λ (w : Vec Ring Global). w.items) c.deref.result.now)
    (subst (λ (z : List (Vec Ring Global)). HasRings (arcs_in t) (λ face. face) t.arcs.now.faces (map (λ (w : Vec Ring Global). w.items) z)) (sym c.deref.ensures.value) c.in_ok-outlines.ensures.rings)
