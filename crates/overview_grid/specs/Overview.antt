-- A coarse grid that stays shoal-biased: every so many-th row and column of a grid, where a node has the least depth of the whole neighbourhood of the fine node at its position.
--
-- The definition takes the least over each neighbourhood; the code takes it along rows first and then along columns.
use Rattle.std.specs.Prelude.{◌≡◌, ℕ, ◌+◌, ◌-◌, ◌*◌, ◌/◌, ◌<◌, ◌≤◌, ℤ, List, length, Option}
use Rattle.std.specs.Int.{abs_diff}
use Rattle.depth_grid.specs.Grid.{GridView, place, depth_at}
use Rattle.overview_grid.specs.Least.{IsLeastOf}

-- how many rows or columns an overview has, of so many of the fine grid: the first, and each whose number is a multiple of the factor
abbrev pub coarse_count : ℕ → ℕ → ℕ
coarse_count count factor = (count - 1) / factor + 1

-- d is the depth, or none, of a node at most `factor` rows and columns away from node (row, col); at the border of the grid that is fewer nodes
pub record StandsBeside (g : GridView) (factor row col : ℕ) (d : Option ℤ) : Type 0 where
  pub at_row : ℕ
  pub at_col : ℕ
  pub row_in : at_row < length g.ys
  pub col_in : at_col < length g.xs
  pub rows_away : abs_diff at_row row ≤ factor
  pub cols_away : abs_diff at_col col ≤ factor
  pub stands : depth_at g at_row at_col ≡ d

-- the places of the rows or columns of an overview, in their order
pub record AreCoarsePlaces (zs : List ℤ) (factor : ℕ) (coarse : List ℤ) : Type 0 where
  pub full : length coarse ≡ coarse_count (length zs) factor
  pub each : (k : ℕ) → k < length coarse → place coarse k ≡ place zs (factor * k)

-- c is the overview of g: node (row, col) stands where node (factor * row, factor * col) of g does, and has the least depth of that node's neighbourhood, and none where one of the neighbourhood has none
pub record IsOverview (g : GridView) (factor : ℕ) (c : GridView) : Type 0 where
  pub columns : AreCoarsePlaces g.xs factor c.xs
  pub rows : AreCoarsePlaces g.ys factor c.ys
  pub full : length c.depths ≡ length c.ys * length c.xs
  pub depths : (row col : ℕ) → row < length c.ys → col < length c.xs → IsLeastOf (StandsBeside g factor (factor * row) (factor * col)) (depth_at c row col)
