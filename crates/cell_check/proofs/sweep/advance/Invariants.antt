use Rattle.cell_check.specs.Sweeps.{IsSweep}
use Rattle.cell_check.proofs.sweep.advance.Given as goal

abbrev pub invariant-loop-at : goal.invariant-loop-at
invariant-loop-at l = IsSweep l.count l.rising l.lo.y l.initial.sweep → IsSweep l.count l.rising l.lo.y l.sweep
