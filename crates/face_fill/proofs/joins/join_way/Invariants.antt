use Rattle.std.proofs.Common.{◌-◌}
use Rattle.disjoint_sets.specs.Views.{parents_of}
use Rattle.face_fill.specs.Joins.{AreWayMet, Grows}
use Rattle.face_fill.proofs.joins.join_way.Given as goal

abbrev pub invariant-loop-row : goal.invariant-loop-row
invariant-loop-row l = record {
  grows : Grows l.table (parents_of l.initial.sets) (parents_of l.sets);
  met : AreWayMet l.table (parents_of l.sets) l.way (l.row - l.table.nodes.rect.row) l.cols;
}
