use Rattle.std.proofs.Common.{sym, ◌∙◌, arith}
use Rattle.mesh_definitions.specs.Field.{Field}
use Rattle.face_fill.specs.BandTableView.{field_by}
use Rattle.face_fill.proofs.Known.{band_small}
use Rattle.face_fill.proofs.class_bound.class_number.Goals as goal

pub returns-in-Band-clause-few : goal.returns-in-Band-clause-few
returns-in-Band-clause-few c =
    let f : Field = field_by c.args.table.now.nodes in
    let small = band_small f c.spot-offset.result.0 c.spot-offset.result.1 c.in-Band.band c.spot-offset.ensures.below (sym c.class_of.ensures ∙ c.in-Band.is) in
    omega (arith, small, c.requires.whole.nodes.few_levels)

pub overflow_add-result : goal.overflow_add-result
overflow_add-result c =
    let f : Field = field_by c.args.table.now.nodes in
    let small = band_small f c.spot-offset.result.0 c.spot-offset.result.1 c.in-Band.band c.spot-offset.ensures.below (sym c.class_of.ensures ∙ c.in-Band.is) in
    omega (arith, small, c.requires.whole.nodes.few_levels)
