use Rattle.std.proofs.Common.{◌≡◌, ◌⊎◌, ◌+◌, ◌-◌, ◌<◌, ◌<ℤ◌, ◌≤ℤ◌, length}
use Rattle.depth_grid.specs.Grid.{place}
use Rattle.depth_grid.specs.Views.{grid_view}
use Rattle.tri_mesh.proofs.ground.column_of.Given as goal

abbrev pub invariant-loop-end : goal.invariant-loop-end
invariant-loop-end l = record {
  ordered : l.first < l.end;
  inside : l.end < length (grid_view l.grid).xs;
  west : place (grid_view l.grid).xs l.first ≤ℤ l.x;
  east : l.x ≤ℤ place (grid_view l.grid).xs l.end;
  eastern : (l.end + 1 ≡ length (grid_view l.grid).xs) ⊎ (l.x <ℤ place (grid_view l.grid).xs l.end);
}

abbrev pub decreases-loop-end : goal.decreases-loop-end
decreases-loop-end l = l.end - l.first
