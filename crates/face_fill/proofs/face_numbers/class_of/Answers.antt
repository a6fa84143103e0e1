use Rattle.std.proofs.Common.{sym, ◌∙◌, arith}
use Rattle.mesh_definitions.specs.Field.{Field}
use Rattle.face_fill.specs.BandTableView.{field_by}
use Rattle.face_fill.specs.Ends.{count_surveyed}
use Rattle.face_fill.proofs.Known.{ends_known, greatest_small}
use Rattle.face_fill.proofs.face_numbers.class_of.Goals as goal

pub overflow_add-result : goal.overflow_add-result
overflow_add-result c =
    let f : Field = field_by c.args.table.now.nodes in
    let k = ends_known f c.args.tri c.in-Some.ends (sym c.ends.ensures ∙ c.in-Some.is) in
    let n = count_surveyed f c.args.tri k.0 in
    omega (arith, k.1, n.1, c.requires.below, greatest_small f c.args.tri, c.requires.whole.nodes.few_levels)
