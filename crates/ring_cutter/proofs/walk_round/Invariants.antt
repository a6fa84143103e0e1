use Rattle.std.proofs.Common.{ℕ, length, map, sum_by, cond}
use Rattle.ring_cutter.specs.Rings.{begins, ends}
use Rattle.ring_cutter.specs.Cutting.{Walks, IsUsed}
use Rattle.ring_cutter.proofs.walk_round.Given as goal

abbrev pub invariant-loop-used : goal.invariant-loop-used
invariant-loop-used l = record {
  walks : Walks (begins l.hops) (ends l.hops) (length l.fn.place.items) (length l.hops) l.after l.used.items l.place.items l.path.items (map (λ r. r.items) l.rings.items) l.start l.arc;
  grows : (a : ℕ) → IsUsed l.fn.used.items a → IsUsed l.used.items a;
}

abbrev pub decreases-loop-used : goal.decreases-loop-used
decreases-loop-used l = sum_by (λ u. cond u 0 1) l.used.items
