use Rattle.std.proofs.Common.{◌≡◌, ◌-◌, length}
use Rattle.tri_mesh.specs.Cells.{Renumbers}
use Rattle.tri_mesh.proofs.Numbering.{front}
use Rattle.tri_mesh.proofs.cutting.renumber.Given as goal

abbrev pub invariant-loop-row : goal.invariant-loop-row
invariant-loop-row l = record {
  len : length l.numbers ≡ length l.initial.numbers;
  cells : Renumbers l.initial.numbers l.cols (front l.rect (l.row - l.rect.row)) l.number l.numbers;
}
