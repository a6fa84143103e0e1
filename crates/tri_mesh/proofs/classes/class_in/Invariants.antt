use Rattle.std.proofs.Common.{◌+◌, ◌-◌, ◌<◌}
use Rattle.tri_mesh.specs.Fields.{field_in}
use Rattle.tri_mesh.proofs.Depths.{Passed}
use Rattle.tri_mesh.proofs.classes.class_in.Given as goal

abbrev pub invariant-loop-k : goal.invariant-loop-k
invariant-loop-k l = record {
  passed : Passed (field_in l.ch l.levels) l.tri l.p (l.k - (l.first + 1)) l.band;
  small : l.band < l.k;
}
