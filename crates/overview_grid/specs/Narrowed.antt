-- Values of which each row is narrowed to the least ones beside every so many-th column.
use Rattle.std.specs.Prelude.{◌≡◌, ◌⊎◌, ℕ, ◌+◌, ◌*◌, ◌/◌, ◌%◌, ◌<◌, ◌≤◌, ℤ, List, length, Option, None, slice_index_or}
use Rattle.std.specs.Int.{abs_diff}
use Rattle.overview_grid.specs.Least.{IsLeastOf}
use Rattle.depth_grid.specs.Grid.{GridView}
use Rattle.overview_grid.specs.Overview.{coarse_count, StandsBeside}

-- d is one of two
abbrev pub IsOneOf : Option ℤ → Option ℤ → Option ℤ → Type 0
IsOneOf a b d = (d ≡ a) ⊎ (d ≡ b)

-- d stands in a list, from one place on and before another
pub record StandsBetween (values : List (Option ℤ)) (first past : ℕ) (d : Option ℤ) : Type 0 where
  pub at : ℕ
  pub not_before : first ≤ at
  pub before : at < past
  pub stands : slice_index_or values at None ≡ d

-- d stands in a row of values, at most `factor` columns away from a column
pub record StandsAlong (values : List (Option ℤ)) (cols factor row col : ℕ) (d : Option ℤ) : Type 0 where
  pub at_col : ℕ
  pub col_in : at_col < cols
  pub cols_away : abs_diff at_col col ≤ factor
  pub stands : slice_index_or values (row * cols + at_col) None ≡ d

-- the least ones, column by column: of column k all rows stand side by side, so that narrowing twice narrows rows and columns and gives row by row again
pub record AreNarrowed (values : List (Option ℤ)) (rows cols factor : ℕ) (narrowed : List (Option ℤ)) : Type 0 where
  pub full : length narrowed ≡ coarse_count cols factor * rows
  pub each : (k : ℕ) → k < coarse_count cols factor * rows → IsLeastOf (StandsAlong values cols factor (k % rows) (factor * (k / rows))) (slice_index_or narrowed k None)

-- the depths of the overview of a grid, row by row
pub record AreLeastDepths (g : GridView) (factor : ℕ) (depths : List (Option ℤ)) : Type 0 where
  pub full : length depths ≡ coarse_count (length g.ys) factor * coarse_count (length g.xs) factor
  pub each : (row col : ℕ) → row < coarse_count (length g.ys) factor → col < coarse_count (length g.xs) factor → IsLeastOf (StandsBeside g factor (factor * row) (factor * col)) (slice_index_or depths (row * coarse_count (length g.xs) factor + col) None)
