use Rattle.std.proofs.Common.{◌≡◌, ◌+◌, ◌++◌, take, drop}
use Rattle.cell_check.proofs.sweep.overwrite.Given as goal

abbrev pub invariant-loop-i : goal.invariant-loop-i
invariant-loop-i l = l.row ≡ take l.from l.initial.row ++ (take l.i l.entries ++ drop (l.from + l.i) l.initial.row)
