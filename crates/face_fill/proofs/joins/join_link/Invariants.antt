use Rattle.std.proofs.Common.{ℕ, ◌≤◌, ◌<◌}
use Rattle.disjoint_sets.specs.Views.{parents_of}
use Rattle.face_fill.specs.Joins.{AreMetAt, Grows}
use Rattle.face_fill.proofs.joins.join_link.Given as goal

abbrev pub invariant-loop-band : goal.invariant-loop-band
invariant-loop-band l = record {
  grows : Grows l.table (parents_of l.initial.sets) (parents_of l.sets);
  met : (b : ℕ) → l.first ≤ b → b < l.band → AreMetAt l.table (parents_of l.sets) l.fn.link b;
}
