use Rattle.std.proofs.Common.{◌≡◌, length}
use Rattle.ring_cutter.specs.Rings.{begins}
use Rattle.ring_cutter.specs.Cutting.{Lists}
use Rattle.ring_cutter.proofs.list_leaving.Given as goal

abbrev pub invariant-loop-a : goal.invariant-loop-a
invariant-loop-a l = record {
  lists : Lists (begins l.hops) (length l.fn.first.items) l.a l.first.items l.next.items;
  each : length l.next.items ≡ l.a;
}
