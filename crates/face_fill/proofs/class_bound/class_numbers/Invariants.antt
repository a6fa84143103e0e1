use Rattle.face_fill.specs.Classed.{AreClassed}
use Rattle.face_fill.proofs.class_bound.class_numbers.Given as goal

abbrev pub invariant-loop-item : goal.invariant-loop-item
invariant-loop-item l = AreClassed l.table l.item l.numbers.items
