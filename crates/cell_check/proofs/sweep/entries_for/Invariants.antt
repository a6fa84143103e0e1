use Rattle.std.proofs.Common.{◌≡◌, map, take}
use Rattle.cell_check.specs.Joints.{line_of}
use Rattle.cell_check.proofs.sweep.entries_for.Given as goal

abbrev pub invariant-loop-line : goal.invariant-loop-line
invariant-loop-line l = map line_of l.entries.items ≡ take l.line-index l.lines
