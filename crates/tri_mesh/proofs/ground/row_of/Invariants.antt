use Rattle.std.proofs.Common.{◌≡◌, ◌⊎◌, ◌+◌, ◌-◌, ◌<◌, ◌<ℤ◌, ◌≤ℤ◌, length}
use Rattle.depth_grid.specs.Grid.{place}
use Rattle.depth_grid.specs.Views.{grid_view}
use Rattle.tri_mesh.proofs.ground.row_of.Given as goal

abbrev pub invariant-loop-end : goal.invariant-loop-end
invariant-loop-end l = record {
  ordered : l.first < l.end;
  inside : l.end < length (grid_view l.grid).ys;
  north : l.y ≤ℤ place (grid_view l.grid).ys l.first;
  south : place (grid_view l.grid).ys l.end ≤ℤ l.y;
  southern : (l.end + 1 ≡ length (grid_view l.grid).ys) ⊎ (place (grid_view l.grid).ys l.end <ℤ l.y);
}

abbrev pub decreases-loop-end : goal.decreases-loop-end
decreases-loop-end l = l.end - l.first
