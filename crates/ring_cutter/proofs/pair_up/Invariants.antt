use Rattle.std.proofs.Common.{length}
use Rattle.ring_cutter.specs.Rings.{begins, ends}
use Rattle.ring_cutter.specs.Cutting.{Pairs}
use Rattle.ring_cutter.proofs.pair_up.Given as goal

abbrev pub invariant-loop-a : goal.invariant-loop-a
invariant-loop-a l = Pairs (begins l.hops) (ends l.hops) (length l.fn.first.items) (length l.hops) l.a l.first.items l.next.items l.after.items
