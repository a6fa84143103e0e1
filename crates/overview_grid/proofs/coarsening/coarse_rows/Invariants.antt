use Rattle.std.proofs.Common.{◌≡◌, ℕ, ◌*◌, ◌<◌, ◌≤◌, length, vec_capacity}
use Rattle.depth_grid.specs.Grid.{place}
use Rattle.overview_grid.proofs.coarsening.coarse_rows.Given as goal

abbrev pub invariant-loop-k : goal.invariant-loop-k
invariant-loop-k l = record {
  full : length l.ys.items ≡ l.k;
  each : (k : ℕ) → k < l.k → place l.ys.items k ≡ place l.grid.ys.items (l.factor * k);
  room : l.count ≤ vec_capacity l.ys;
}
