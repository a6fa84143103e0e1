-- The sample grid.
use Rattle.std.specs.Prelude.{ℕ, ◌*◌, ◌^◌, pos, map, reverse}
use Rattle.std.specs.List.{range_with_len}
use Rattle.depth_grid.specs.Grid.{GridView}
use Rattle.grid_reader.specs.Shape.{positions}
use Rattle.chart_sample.specs.Depths.{node_depth}

-- the n-th sample of so many rows and columns: its positions are those of a grid text whose south-western node is at 4 degrees east and 52 degrees north (twice that in units of 10^-24 degree is given), in cells of a ten-thousandth of a degree
unfoldable pub sized_view : ℕ → ℕ → ℕ → GridView
sized_view n rows cols = record {
  xs = positions (pos (8 * 10 ^ 24)) (pos (10 ^ 20)) cols;
  ys = reverse (positions (pos (104 * 10 ^ 24)) (pos (10 ^ 20)) rows);
  depths = map (node_depth n cols) (range_with_len 0 (rows * cols));
}

-- the n-th sample grid
abbrev pub sample_view : ℕ → GridView
sample_view n = sized_view n 301 401
