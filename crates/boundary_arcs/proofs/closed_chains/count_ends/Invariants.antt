use Rattle.std.proofs.Common.{take}
use Rattle.boundary_arcs.specs.ChainEdges.{CountsEnds}
use Rattle.boundary_arcs.proofs.closed_chains.count_ends.Given as goal

abbrev pub invariant-loop-i : goal.invariant-loop-i
invariant-loop-i l = CountsEnds (take l.i l.lines) l.points l.ends.items
