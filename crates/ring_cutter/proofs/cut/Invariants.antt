use Rattle.std.proofs.Common.{ℕ, ◌<◌, length, map}
use Rattle.ring_cutter.specs.Rings.{begins, ends}
use Rattle.ring_cutter.specs.Cutting.{Rests, IsUsed}
use Rattle.ring_cutter.proofs.cut.Given as goal

abbrev pub invariant-loop-start : goal.invariant-loop-start
invariant-loop-start l = record {
  rests : Rests (begins l.hops) (ends l.hops) (length l.fn.table.items) (length l.hops) l.after.items l.used.items l.table.items l.path.items (map (λ r. r.items) l.rings.items);
  taken : (a : ℕ) → a < l.start → IsUsed l.used.items a;
}
