use Rattle.chains.specs.Tracing.{Notes}
use Rattle.chains.proofs.spots.note_halves.Given as goal

abbrev pub invariant-loop-i : goal.invariant-loop-i
invariant-loop-i l = Notes l.lines l.points l.i l.spots.items
