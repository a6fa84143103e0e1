use Rattle.std.proofs.Common.{◌<◌, ◌≤◌, ◌*◌, length, map, take}
use Rattle.std.specs.List.{AllZip}
use Rattle.std.specs.Prelude.{All}
use Rattle.boundary_arcs.specs.ChainEdges.{IsArcOf, HasNumbers, UsesEach}
use Rattle.boundary_arcs.proofs.chain_edges.arcs_of.Given as goal

abbrev pub invariant-loop-i : goal.invariant-loop-i
invariant-loop-i l = record {
  run : AllZip (IsArcOf l.points l.lines) l.arcs.items (take l.i (map (λ c. c.items) l.chains));
  numbers : AllZip (HasNumbers l.nodes.keys l.lines) l.arcs.items (take l.i (map (λ c. c.items) l.chains));
  inside : All (λ p. p < length l.points) l.nodes.keys;
  few : length l.nodes.keys ≤ 2 * l.i;
  used : UsesEach l.nodes.keys l.arcs.items;
}
