use Rattle.ring_cutter.specs.Rings.{begins}
use Rattle.ring_cutter.specs.Cutting.{Clears}
use Rattle.ring_cutter.proofs.unmark.Given as goal

abbrev pub invariant-loop-i : goal.invariant-loop-i
invariant-loop-i l = Clears (begins l.hops) l.ring l.i l.initial.place.items l.place.items
