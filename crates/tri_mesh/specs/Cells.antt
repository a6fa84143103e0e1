-- Blocks of cells as plain values, and what they keep.
use Rattle.std.specs.Prelude.{◌≡◌, ℕ, ◌+◌, ◌*◌, ◌<◌, ◌≤◌, nat_le, nat_lt, ◌&&◌, Bool, cond, List, length, slice_index_or, sum_by}
use Rattle.mesh_definitions.specs.Blocks.{IsBlocks}
use Rattle.mesh_definitions.specs.Mesh.{has_cell}
use Rattle.mesh_definitions.specs.declared.Rect.{Rect}

-- so many rows and columns of cells, the rectangles of the blocks, and row by row each cell's block
pub record BlocksView : Type 0 where
  pub rows : ℕ
  pub cols : ℕ
  pub rects : List Rect
  pub numbers : List ℕ

abbrev pub view_of : ℕ → ℕ → List Rect → List ℕ → BlocksView
view_of rows cols rects numbers = record { rows = rows; cols = cols; rects = rects; numbers = numbers }

-- the rectangle of all cells, of so many rows and columns
abbrev pub cells : ℕ → ℕ → Rect
cells rows cols = record { row = 0; col = 0; rows = rows; cols = cols }

abbrev pub all_of : BlocksView → Rect
all_of v = cells v.rows v.cols

-- the rectangle of a block
abbrev pub rect_in : List Rect → ℕ → Rect
rect_in rects k = slice_index_or rects k (cells 0 0)

abbrev pub rect_of : BlocksView → ℕ → Rect
rect_of v k = rect_in v.rects k

-- the block of a cell
abbrev pub block_in : BlocksView → ℕ → ℕ → ℕ
block_in v i j = slice_index_or v.numbers (i * v.cols + j) 0

-- how many cells a rectangle has
abbrev pub area : Rect → ℕ
area r = r.rows * r.cols

-- what all blocks keep: at most 1,024 rows and columns of cells; the rectangles are blocks of all cells, and have together as many cells as there are
pub record AreBlocks (v : BlocksView) : Type 0 where
  pub few_rows : v.rows ≤ 1024
  pub few_cols : v.cols ≤ 1024
  pub full : length v.numbers ≡ v.rows * v.cols
  pub areas : sum_by area v.rects ≡ v.rows * v.cols
  pub blocks : IsBlocks (all_of v) (length v.rects) (rect_of v) (block_in v)

-- the numbers from start on, below end
abbrev pub is_between : ℕ → ℕ → ℕ → Bool
is_between start end k = nat_le start k && nat_lt k end

-- places in between got a number, and no other changed
abbrev pub Fills : List ℕ → ℕ → ℕ → ℕ → List ℕ → Type 0
Fills old start end number new = (k : ℕ) → slice_index_or new k 0 ≡ cond (is_between start end k) number (slice_index_or old k 0)

-- the cells of a rectangle got a number, of so many columns, and no other changed
abbrev pub Renumbers : List ℕ → ℕ → Rect → ℕ → List ℕ → Type 0
Renumbers old cols r number new = (i j : ℕ) → j < cols → slice_index_or new (i * cols + j) 0 ≡ cond (has_cell r i j) number (slice_index_or old (i * cols + j) 0)
