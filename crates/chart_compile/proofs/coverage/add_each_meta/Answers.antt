use Rattle.std.proofs.Common.{◌∙◌, ◌∷◌, [], All, Global, List, Vec, arith, map, subst, sym}
use Rattle.chart_compile.proofs.Outlined.{rings_there}
use Rattle.chart_compile.proofs.Placing.{adds_length, adds_placed}
use Rattle.chart_compile.specs.Topology.{arcs_in, faces_in}
use Rattle.built_parts.specs.Areas.{NamesArcs, block_content, rings_in}
use Rattle.built_parts.specs.Contents.{Adds}
use Rattle.ring_builder.specs.declared.ring.Ring.{Ring}
use Rattle.chart_compile.proofs.coverage.add_each_meta.Goals as goal

pub add_meta-requires-clause-inside : goal.add_meta-requires-clause-inside
add_meta-requires-clause-inside c =
    let k = c.loop-block.block in
    let these = rings_there c.args.rings.now k c.index-rings-block.result c.deref.result.now c.loop-block-test.true c.index-rings-block.is c.deref.ensures.value in
    subst (All (NamesArcs (arcs_in c.args.topology.now))) (sym these) (c.requires.inside k)

pub loop-block-preserved : goal.loop-block-preserved
loop-block-preserved c =
    let k = c.loop-block.block in
    let v = faces_in c.args.topology.now in
    let arcs = arcs_in c.args.topology.now in
    let m = c.args.meta in
    let all = map (λ (w : Vec Ring Global). w.items) c.args.rings.now in
    let these = rings_there c.args.rings.now k c.index-rings-block.result c.deref.result.now c.loop-block-test.true c.index-rings-block.is c.deref.ensures.value in
    let added = subst (λ (z : List Ring). Adds (block_content m.objl m.code m.value v arcs z ∷ []) c.loop-block.features.list.items c.add_meta.new.features.list.items) these c.in_ok-add_meta.ensures.added in
    let more = adds_length (block_content m.objl m.code m.value v arcs (rings_in all k) ∷ []) _ _ added in
    record {
      added = adds_placed (λ i. block_content m.objl m.code m.value v arcs (rings_in all i)) k _ _ _ c.loop-block.invariant.added added;
      few = omega (arith, more, c.loop-block.invariant.few);
      same = c.in_ok-add_meta.ensures.same ∙ c.loop-block.invariant.same;
    }
