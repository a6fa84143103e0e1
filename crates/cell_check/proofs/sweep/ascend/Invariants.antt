use Rattle.std.proofs.Common.{ℕ, ◌+◌, ◌<◌, ◌≤ℤ◌, get_or}
use Rattle.cell_check.specs.declared.order.Height.{Height}
use Rattle.cell_check.proofs.sweep.ascend.Given as goal

abbrev pub invariant-loop-i : goal.invariant-loop-i
invariant-loop-i l = (k : ℕ) (d : Height) → k + 1 < l.i → (get_or l.heights k d).y ≤ℤ (get_or l.heights (k + 1) d).y
