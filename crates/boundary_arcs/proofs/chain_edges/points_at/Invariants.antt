use Rattle.std.proofs.Common.{◌≡◌, map, take}
use Rattle.boundary_arcs.specs.ChainEdges.{point_at}
use Rattle.boundary_arcs.proofs.chain_edges.points_at.Given as goal

abbrev pub invariant-loop-i : goal.invariant-loop-i
invariant-loop-i l = l.found.items ≡ map (point_at l.points) (take l.i l.numbers)
