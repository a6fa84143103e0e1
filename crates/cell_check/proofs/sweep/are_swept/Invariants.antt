use Rattle.std.proofs.Common.{ℕ, ◌+◌, ◌-◌, ◌<◌, ◌≤◌, ◌<ℤ◌, length, get_or}
use Rattle.cell_check.specs.Sweeps.{IsSweep, HasSweep}
use Rattle.cell_check.specs.declared.order.Height.{Height}
use Rattle.cell_check.proofs.sweep.are_swept.Given as goal

abbrev pub invariant-loop-i : goal.invariant-loop-i
invariant-loop-i l = record {
  sweep : (d : Height) → l.i ≤ length l.heights → IsSweep l.count l.rising (get_or l.heights (l.i - 1) d).y l.sweep;
  found : (k : ℕ) (d : Height) → k + 1 < l.i → (get_or l.heights k d).y <ℤ (get_or l.heights (k + 1) d).y → HasSweep l.count l.rising (get_or l.heights k d).y;
}
