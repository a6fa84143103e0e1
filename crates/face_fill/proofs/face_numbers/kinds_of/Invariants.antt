use Rattle.face_fill.specs.Filled.{AreKinds}
use Rattle.face_fill.specs.BandTableView.{field_by}
use Rattle.face_fill.specs.PieceTableView.{block_by}
use Rattle.face_fill.proofs.face_numbers.kinds_of.Given as goal

abbrev pub invariant-loop-item : goal.invariant-loop-item
invariant-loop-item l = AreKinds (field_by l.table.nodes) l.table.nodes.rect (block_by l.table.blocks) l.table.items.starts.items l.table.items.owners.items l.numbers l.count l.item l.classes.items l.blocks.items
