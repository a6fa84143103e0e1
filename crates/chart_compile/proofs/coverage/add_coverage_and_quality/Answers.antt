use Rattle.std.proofs.Common.{◌∙◌, ◌<◌, All, Global, List, Vec, ap, length, map, subst, sym}
use Rattle.chart_compile.proofs.Inside.{rings_inside}
use Rattle.chart_compile.specs.Topology.{arcs_in}
use Rattle.ring_builder.specs.Parts.{numbers}
use Rattle.ring_builder.specs.Rings.{HasRings}
use Rattle.ring_builder.specs.declared.ring.Ring.{Ring}
use Rattle.chart_compile.proofs.coverage.add_coverage_and_quality.Goals as goal

pub set_rings-requires-clause-as_many : goal.set_rings-requires-clause-as_many
set_rings-requires-clause-as_many c =
    let t = c.args.topology.now in
    ap length (c.deref.ensures.value ∙ c.in_ok-owners.ensures) ∙ t.faces.now.sound.blocks ∙ sym t.alike

pub set_rings-requires-clause-below : goal.set_rings-requires-clause-below
set_rings-requires-clause-below c =
    let t = c.args.topology.now in
    subst (All (λ o. o < t.blocks)) (sym (c.deref.ensures.value ∙ c.in_ok-owners.ensures)) t.below

pub add_each_coverage-requires-clause-inside : goal.add_each_coverage-requires-clause-inside
add_each_coverage-requires-clause-inside c =
    let t = c.args.topology.now in
    let owner = numbers c.deref.result.now in
    rings_inside (arcs_in t) owner t.blocks (map (λ (w : Vec Ring Global). w.items) c.deref-2.result.now)
    (subst (λ (z : List (Vec Ring Global)). HasRings (arcs_in t) owner t.blocks (map (λ (w : Vec Ring Global). w.items) z)) (sym c.deref-2.ensures.value) c.in_ok-rings.ensures.rings)
