use Rattle.std.proofs.Common.{◌≡◌, ℕ, ◌<◌, ◌≤◌, [], length, get_or, map}
use Rattle.boundary_arcs.specs.ChainEdges.{IsTurn}
use Rattle.boundary_arcs.proofs.closed_chains.turn_all.Given as goal

abbrev pub invariant-loop-i : goal.invariant-loop-i
invariant-loop-i l = record {
  wide : length l.chains.items ≡ length l.fn.chains.items;
  turned : (j : ℕ) → j < l.i → IsTurn l.points l.lines (get_or (map (λ c. c.items) l.fn.chains.items) j []) (get_or (map (λ c. c.items) l.chains.items) j []);
  rest : (j : ℕ) → l.i ≤ j → get_or (map (λ c. c.items) l.chains.items) j [] ≡ get_or (map (λ c. c.items) l.fn.chains.items) j [];
}
