use Rattle.std.proofs.Common.{◌≤◌, ◌+◌, ◌*◌, ◌++◌, ℕ, List}
use Rattle.chart_query.specs.Split.{IsSplit}
use Rattle.chart_query.proofs.split.split_of.Given as goal

abbrev pub invariant-loop-left : goal.invariant-loop-left
invariant-loop-left l = record {
  so_far : (more : List ℕ) (after : ℕ) → IsSplit more l.base l.left after → IsSplit (l.bases.items ++ more) 1 l.last after;
  small : l.base + 3 * l.left ≤ 1 + 3 * l.last;
}

abbrev pub decreases-loop-left : goal.decreases-loop-left
decreases-loop-left l = l.left
