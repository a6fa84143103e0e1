use Rattle.std.proofs.Common.{◌≡◌, ℕ, ◌*◌, ◌<◌, ◌≤◌, length, vec_capacity}
use Rattle.depth_grid.specs.Grid.{place}
use Rattle.overview_grid.proofs.coarsening.coarse_columns.Given as goal

abbrev pub invariant-loop-k : goal.invariant-loop-k
invariant-loop-k l = record {
  full : length l.xs.items ≡ l.k;
  each : (k : ℕ) → k < l.k → place l.xs.items k ≡ place l.grid.xs.items (l.factor * k);
  room : l.count ≤ vec_capacity l.xs;
}
