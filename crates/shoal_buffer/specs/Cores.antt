-- Discs that grow row by row from within: what a pass keeps on its way.
use Rattle.std.specs.Prelude.{◌≡◌, ℕ, ◌+◌, ◌<◌, ◌≤◌, ℤ, ◌≤ℤ◌, true, List, length}
use Rattle.std.specs.Int.{abs_diff}
use Rattle.depth_grid.specs.Disc.{near}
use Rattle.shoal_buffer.specs.Keys.{at}

-- a node is in the core of the disc of node (row, col): it is at most so many rows north or south, and stays in the disc when it goes `reserve` columns outwards
pub record IsInCore (rows cols aspect radius north south reserve row col at_row at_col : ℕ) : Type 0 where
  pub row_in : at_row < rows
  pub col_in : at_col < cols
  pub to_north : row ≤ at_row + north
  pub to_south : at_row ≤ row + south
  pub across : abs_diff at_col col + reserve < cols
  pub is_near : near aspect radius (abs_diff at_row row) (abs_diff at_col col + reserve) ≡ true

-- m is the least key of the nodes of S, where V gives the keys
pub record IsLeastKey (V : ℕ → ℕ → ℤ) (S : ℕ → ℕ → Type 0) (m : ℤ) : Type 0 where
  pub at_row : ℕ
  pub at_col : ℕ
  pub inside : S at_row at_col
  pub stands : m ≡ V at_row at_col
  pub least : (i j : ℕ) → S i j → m ≤ℤ V i j

-- the least keys of the cores of a row's nodes
pub record AreLeastKeys (V : ℕ → ℕ → ℤ) (rows cols aspect radius north south reserve row : ℕ) (keys : List ℤ) : Type 0 where
  pub full : length keys ≡ cols
  pub each : (col : ℕ) → col < cols → IsLeastKey V (IsInCore rows cols aspect radius north south reserve row col) (at keys col)

-- the keys of a row
pub record IsKeyRow (V : ℕ → ℕ → ℤ) (rows cols row : ℕ) (keys : List ℤ) : Type 0 where
  pub inside : row < rows
  pub full : length keys ≡ cols
  pub each : (col : ℕ) → col < cols → at keys col ≡ V row col
