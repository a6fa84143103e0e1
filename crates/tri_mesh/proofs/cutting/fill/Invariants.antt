use Rattle.std.proofs.Common.{◌≡◌, length}
use Rattle.tri_mesh.specs.Cells.{Fills}
use Rattle.tri_mesh.proofs.cutting.fill.Given as goal

abbrev pub invariant-loop-at : goal.invariant-loop-at
invariant-loop-at l = record {
  len : length l.numbers ≡ length l.initial.numbers;
  fills : Fills l.initial.numbers l.start l.at l.number l.numbers;
}
