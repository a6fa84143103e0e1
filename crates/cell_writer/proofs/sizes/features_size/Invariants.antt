use Rattle.std.proofs.Common.{◌≡◌, ◌*◌, ◌≤◌, drop, Some}
use Rattle.cell_writer.specs.Layout.{feature_parts}
use Rattle.cell_writer.specs.Sizes.{plus, plus_all, short_size}
use Rattle.cell_writer.proofs.sizes.features_size.Given as goal

-- the total so far and the lengths to come are all of them
abbrev pub invariant-loop-feature : goal.invariant-loop-feature
invariant-loop-feature l = record {
  sum : plus (Some l.total) (plus_all (λ x. short_size (feature_parts 0 x)) (drop l.feature-index l.features)) ≡ plus_all (λ x. short_size (feature_parts 0 x)) l.features;
  few : l.total ≤ 99999 * l.feature-index;
}
