use Rattle.std.proofs.Common.{◌-◌}
use Rattle.disjoint_sets.specs.Views.{parents_of}
use Rattle.face_fill.specs.Joins.{AreRowMet, Grows}
use Rattle.face_fill.proofs.joins.join_row.Given as goal

abbrev pub invariant-loop-col : goal.invariant-loop-col
invariant-loop-col l = record {
  grows : Grows l.table (parents_of l.initial.sets) (parents_of l.sets);
  met : AreRowMet l.table (parents_of l.sets) l.way l.row (l.col - l.table.nodes.rect.col);
}
