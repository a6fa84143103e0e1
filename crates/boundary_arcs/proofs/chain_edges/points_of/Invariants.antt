use Rattle.std.proofs.Common.{◌≡◌, map, take}
use Rattle.boundary_arcs.specs.ChainEdges.{point_at}
use Rattle.chains.specs.Nets.{begin_of}
use Rattle.boundary_arcs.proofs.chain_edges.points_of.Given as goal

abbrev pub invariant-loop-i : goal.invariant-loop-i
invariant-loop-i l = l.written.items ≡ map (λ h. point_at l.points (begin_of l.lines h)) (take l.i l.chain)
