use Rattle.std.proofs.Common.{ℕ, ◌≤◌, ◌<◌}
use Rattle.cell_check.specs.Joints.{IsJointAt}
use Rattle.cell_check.proofs.sweep.fits_along.Given as goal

abbrev pub invariant-loop-at : goal.invariant-loop-at
invariant-loop-at l = (at : ℕ) → l.from ≤ at → at < l.at → IsJointAt l.count l.row at
