use Rattle.std.proofs.Common.{ℕ, ◌+◌, ◌<◌, ◌≤ℤ◌, get_or}
use Rattle.cell_check.specs.Sweeps.{begin_of}
use Rattle.cell_check.specs.declared.line.Line.{Line}
use Rattle.cell_check.proofs.sweep.begin_in_order.Given as goal

abbrev pub invariant-loop-i : goal.invariant-loop-i
invariant-loop-i l = (k : ℕ) (d : Line) → k + 1 < l.i → begin_of (get_or l.rising k d) ≤ℤ begin_of (get_or l.rising (k + 1) d)
