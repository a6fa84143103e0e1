-- What a grid of the code shows.
use Rattle.depth_grid.specs.declared.grid.Grid.{Grid}
use Rattle.depth_grid.specs.Grid.{GridView}

abbrev pub grid_view : Grid → GridView
grid_view g = record { xs = g.xs.items; ys = g.ys.items; depths = g.depths.items }
