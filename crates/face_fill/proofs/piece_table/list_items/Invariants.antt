use Rattle.std.proofs.Common.{◌-◌, ◌*◌}
use Rattle.face_fill.specs.BandTableView.{field_by}
use Rattle.face_fill.specs.PieceTableView.{block_by}
use Rattle.face_fill.specs.Runs.{AreListed}
use Rattle.face_fill.proofs.piece_table.list_items.Given as goal

abbrev pub invariant-loop-row : goal.invariant-loop-row
invariant-loop-row l = AreListed (field_by l.nodes) l.nodes.rect (block_by l.blocks) (2 * ((l.row - l.nodes.rect.row) * l.nodes.rect.cols)) l.items
