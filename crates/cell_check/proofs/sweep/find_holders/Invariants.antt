use Rattle.std.proofs.Common.{◌≡◌, map}
use Rattle.cell_check.specs.Joints.{line_of}
use Rattle.cell_check.proofs.sweep.find_holders.Given as goal

abbrev pub invariant-loop-at : goal.invariant-loop-at
invariant-loop-at l = map line_of l.entries ≡ map line_of l.initial.entries
