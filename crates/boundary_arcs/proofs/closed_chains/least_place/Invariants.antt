use Rattle.std.proofs.Common.{ℕ, ◌<◌, length}
use Rattle.boundary_arcs.specs.ChainEdges.{point_at}
use Rattle.chains.specs.Nets.{begin_of, half_at}
use Rattle.mesh_definitions.specs.Edges.{IsFirstOf}
use Rattle.boundary_arcs.proofs.closed_chains.least_place.Given as goal

abbrev pub invariant-loop-i : goal.invariant-loop-i
invariant-loop-i l = record {
  inside : l.least < length l.chain;
  least : (j : ℕ) → j < l.i → IsFirstOf (point_at l.points (begin_of l.lines (half_at l.chain l.least))) (point_at l.points (begin_of l.lines (half_at l.chain j)));
}
