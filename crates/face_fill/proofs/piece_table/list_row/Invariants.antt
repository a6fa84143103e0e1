use Rattle.std.proofs.Common.{◌+◌, ◌-◌, ◌*◌, ◌<◌, false}
use Rattle.std.specs.Prelude.{IfSome}
use Rattle.face_fill.specs.BandTableView.{field_by}
use Rattle.face_fill.specs.Items.{tri_of}
use Rattle.face_fill.specs.PieceTableView.{block_by}
use Rattle.face_fill.specs.Runs.{AreListed, IsLast}
use Rattle.face_fill.specs.declared.tables.Look.{Look}
use Rattle.face_fill.proofs.piece_table.list_row.Given as goal

abbrev pub invariant-loop-col : goal.invariant-loop-col
invariant-loop-col l = record {
  listed : AreListed (field_by l.nodes) l.nodes.rect (block_by l.blocks) (2 * ((l.row - l.nodes.rect.row) * l.nodes.rect.cols) + 2 * l.col) l.items;
  last : IfSome l.before (λ (b : Look). (0 < l.col) × IsLast (field_by l.nodes) l.nodes.rect (block_by l.blocks) (2 * ((l.row - l.nodes.rect.row) * l.nodes.rect.cols) + 2 * l.col) l.items (tri_of l.row (l.nodes.rect.col + l.col - 1) false) b);
}
