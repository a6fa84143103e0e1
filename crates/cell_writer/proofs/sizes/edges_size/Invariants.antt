use Rattle.std.proofs.Common.{◌≡◌, ◌*◌, ◌≤◌, drop, Some}
use Rattle.cell_writer.specs.Layout.{edge_parts}
use Rattle.cell_writer.specs.Sizes.{plus, plus_all, short_size}
use Rattle.cell_writer.proofs.sizes.edges_size.Given as goal

-- the total so far and the lengths to come are all of them
abbrev pub invariant-loop-edge : goal.invariant-loop-edge
invariant-loop-edge l = record {
  sum : plus (Some l.total) (plus_all (λ x. short_size (edge_parts 0 x)) (drop l.edge-index l.edges)) ≡ plus_all (λ x. short_size (edge_parts 0 x)) l.edges;
  few : l.total ≤ 99999 * l.edge-index;
}
