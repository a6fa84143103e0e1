use Rattle.std.proofs.Common.{◌<◌, length, sym, ap, ◌∙◌, arith}
use Rattle.mesh_definitions.specs.Field.{Field}
use Rattle.mesh_definitions.specs.Pieces.{mesh_of}
use Rattle.mesh_definitions.specs.declared.Rect.{Rect}
use Rattle.face_fill.specs.BandTableView.{field_by}
use Rattle.face_fill.specs.PieceTableView.{block_by}
use Rattle.face_fill.proofs.Numbering.{kinds_more}
use Rattle.face_fill.proofs.face_numbers.kinds_of.Goals as goal

pub loop-item-preserved : goal.loop-item-preserved
loop-item-preserved c =
    let p = c.args.table.now in
    let f : Field = field_by p.nodes in
    let r : Rect = p.nodes.rect in
    let inside : c.loop-item.item < length p.items.owners.items = omega (arith, c.loop-item-test.true, c.requires.numbered.each) in
    kinds_more f r (block_by p.blocks) p.items.starts.items p.items.counts.items p.items.owners.items c.requires.whole.items c.args.numbers.now c.args.count c.requires.numbered
    c.loop-item.item c.loop-item.classes.items c.loop-item.blocks.items c.class_of.result c.block.result inside c.loop-item.invariant
    (c.class_of.ensures ∙ sym (ap (mesh_of f r (block_by p.blocks)).class c.spot-offset.ensures.piece))
    (c.block.ensures ∙ sym (ap (mesh_of f r (block_by p.blocks)).block c.spot-offset.ensures.piece))
