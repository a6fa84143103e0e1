use Rattle.std.proofs.Common.{Global, Vec, arith, map}
use Rattle.std.proofs.lemmas.List.{length-map}
use Rattle.chart_compile.proofs.Outlined.{blocks_length}
use Rattle.chart_compile.proofs.Placing.{adds_length}
use Rattle.chart_compile.specs.Topology.{arcs_in, faces_in}
use Rattle.built_parts.specs.Areas.{block_contents}
use Rattle.ring_builder.specs.declared.ring.Ring.{Ring}
use Rattle.s57_codes.specs.Catalogue.{attl_catcov, objl_m_covr}
use Rattle.chart_compile.proofs.coverage.add_each_coverage.Goals as goal

pub add_each_meta-requires-in-Some-clause-few : goal.add_each_meta-requires-in-Some-clause-few
add_each_meta-requires-in-Some-clause-few c =
    let v = faces_in c.args.topology.now in
    let arcs = arcs_in c.args.topology.now in
    let all = map (λ (w : Vec Ring Global). w.items) c.args.rings.now in
    let more = adds_length (block_contents objl_m_covr attl_catcov 1 v arcs all) _ _ c.in_ok-add_each_meta.ensures.added in
    let n = blocks_length objl_m_covr attl_catcov 1 v arcs all in
    let m = length-map c.args.rings.now (λ (w : Vec Ring Global). w.items) in
    omega (arith, more, n, m, c.requires.blocks, c.requires.few)
