use Rattle.std.proofs.Common.{◌≡◌, ℕ, ◌*◌, ◌/◌, ◌%◌, ◌<◌, ◌≤◌, None, get_or, length, vec_capacity}
use Rattle.overview_grid.specs.Least.{IsLeastOf}
use Rattle.overview_grid.specs.Narrowed.{StandsAlong}
use Rattle.overview_grid.proofs.narrowing.Rows.narrowed.Given as goal

abbrev pub invariant-loop-k : goal.invariant-loop-k
invariant-loop-k l = record {
  full : length l.narrowed.items ≡ l.k;
  each : (k : ℕ) → k < l.k → IsLeastOf (StandsAlong l.self.values.now l.self.cols l.self.factor (k % l.self.rows) (l.self.factor * (k / l.self.rows))) (get_or l.narrowed.items k None);
  room : l.count ≤ vec_capacity l.narrowed;
}
