use Rattle.std.proofs.Common.{◌≡◌, ◌*◌, ◌≤◌, drop, Some}
use Rattle.cell_writer.specs.Layout.{isolated_parts}
use Rattle.cell_writer.specs.Sizes.{plus, plus_all, short_size}
use Rattle.cell_writer.proofs.sizes.isolated_sizes.Given as goal

-- the total so far and the lengths to come are all of them
abbrev pub invariant-loop-node : goal.invariant-loop-node
invariant-loop-node l = record {
  sum : plus (Some l.total) (plus_all (λ x. short_size (isolated_parts 0 x)) (drop l.node-index l.nodes)) ≡ plus_all (λ x. short_size (isolated_parts 0 x)) l.nodes;
  few : l.total ≤ 99999 * l.node-index;
}
