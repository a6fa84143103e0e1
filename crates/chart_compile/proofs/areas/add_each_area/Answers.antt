use Rattle.std.proofs.Common.{◌∙◌, ◌∷◌, [], All, Global, List, Vec, arith, map, subst, sym}
use Rattle.chart_compile.proofs.Outlined.{rings_there}
use Rattle.chart_compile.proofs.Placing.{adds_length, adds_placed}
use Rattle.chart_compile.specs.Topology.{arcs_in, faces_in, levels_in}
use Rattle.built_parts.specs.Areas.{NamesArcs, area_content, rings_in}
use Rattle.built_parts.specs.Contents.{Adds}
use Rattle.face_fill.specs.Numbered.{class_of}
use Rattle.ring_builder.specs.declared.ring.Ring.{Ring}
use Rattle.chart_compile.proofs.areas.add_each_area.Goals as goal

pub add_area-requires-clause-inside : goal.add_area-requires-clause-inside
add_area-requires-clause-inside c =
    let k = c.loop-face.face in
    let these = rings_there c.args.rings.now k c.index-rings-face.result c.deref.result.now c.loop-face-test.true c.index-rings-face.is c.deref.ensures.value in
    subst (All (NamesArcs (arcs_in c.args.topology.now))) (sym these) (c.requires.inside k)

pub loop-face-preserved : goal.loop-face-preserved
loop-face-preserved c =
    let k = c.loop-face.face in
    let levels = levels_in c.args.topology.now in
    let v = faces_in c.args.topology.now in
    let arcs = arcs_in c.args.topology.now in
    let all = map (λ (w : Vec Ring Global). w.items) c.args.rings.now in
    let low = c.args.extent.least in
    let high = c.args.extent.greatest in
    let these = rings_there c.args.rings.now k c.index-rings-face.result c.deref.result.now c.loop-face-test.true c.index-rings-face.is c.deref.ensures.value in
    let added = subst (λ (z : List Ring). Adds (area_content levels low high v arcs (class_of v k) z ∷ []) c.loop-face.features.list.items c.add_area.new.features.list.items) these c.in_ok-add_area.ensures.added in
    let more = adds_length (area_content levels low high v arcs (class_of v k) (rings_in all k) ∷ []) _ _ added in
    record {
      added = adds_placed (λ i. area_content levels low high v arcs (class_of v i) (rings_in all i)) k _ _ _ c.loop-face.invariant.added added;
      few = omega (arith, more, c.loop-face.invariant.few);
      same = c.in_ok-add_area.ensures.same ∙ c.loop-face.invariant.same;
    }
