-- Blocks of cells; and blocks by need: a rectangle is cut only where a record would grow too long.
use Rattle.std.specs.Prelude.{◌≡◌, ◌↔◌, ◌⊎◌, ℕ, ◌+◌, ◌-◌, ◌<◌, ◌≤◌, nat_lt, eqb, true, cond, IsTrue, length, Contains}
use Rattle.std.specs.Int.{div_ceil}
use Rattle.mesh_definitions.specs.Faces.{NumbersFaces, boundary}
use Rattle.mesh_definitions.specs.Field.{Field}
use Rattle.mesh_definitions.specs.Mesh.{all_cells, has_cell}
use Rattle.mesh_definitions.specs.Pieces.{Mesh, mesh_of}
use Rattle.mesh_definitions.specs.declared.Piece.{Piece}
use Rattle.mesh_definitions.specs.declared.Rect.{Rect}

-- a rectangle has a cell, and all its cells are in another
pub record IsSubRect (r all : Rect) : Type 0 where
  pub some_rows : 1 ≤ r.rows
  pub some_cols : 1 ≤ r.cols
  pub north : all.row ≤ r.row
  pub south : r.row + r.rows ≤ all.row + all.rows
  pub west : all.col ≤ r.col
  pub east : r.col + r.cols ≤ all.col + all.cols

-- count rectangles of cells, numbered from 0: each cell is in the one of its block's number and in no other
pub record IsBlocks (all : Rect) (count : ℕ) (rect : ℕ → Rect) (block : ℕ → ℕ → ℕ) : Type 0 where
  pub inside : (k : ℕ) → k < count → IsSubRect (rect k) all
  pub below : (i j : ℕ) → IsTrue (has_cell all i j) → block i j < count
  pub holds : (i j k : ℕ) → IsTrue (has_cell all i j) → k < count → IsTrue (has_cell (rect k) i j) ↔ (block i j ≡ k)

-- half of a number of cells, rounded up
abbrev pub half : ℕ → ℕ
half n = div_ceil n 2

-- the two parts of a rectangle that is cut: northern and southern where it is higher than wide, else western and eastern
abbrev pub first_part : Rect → Rect
first_part r = cond (nat_lt r.cols r.rows) (record { row = r.row; col = r.col; rows = half r.rows; cols = r.cols }) (record { row = r.row; col = r.col; rows = r.rows; cols = half r.cols })

abbrev pub second_part : Rect → Rect
second_part r = cond (nat_lt r.cols r.rows) (record { row = r.row + half r.rows; col = r.col; rows = r.rows - half r.rows; cols = r.cols }) (record { row = r.row; col = r.col + half r.cols; rows = r.rows; cols = r.cols - half r.cols })

-- the mesh of a rectangle by itself, as one block
abbrev pub alone : Field → Rect → Mesh
alone f r = mesh_of f r (λ i j. 0)

-- n is a rectangle's outline number, or the boundary number of one of its faces
pub data Asks (f : Field) (r : Rect) : ℕ → Type 0 where
  Outline : Asks f r (length (boundary (alone f r) (λ p. true)))
  Face : (face : Piece → ℕ) → NumbersFaces (alone f r) face → (p : Piece) → Contains (alone f r).pieces p → Asks f r (length (boundary (alone f r) (λ q. eqb (face q) (face p))))

-- a rectangle's need: the greatest of these numbers
pub record IsNeed (f : Field) (r : Rect) (n : ℕ) : Type 0 where
  pub asked : Asks f r n
  pub most : (k : ℕ) → Asks f r k → k ≤ n

-- a rectangle is cut where its need is over 12,000 and it has a side over 16 cells
pub record IsCut (f : Field) (r : Rect) : Type 0 where
  pub need : ℕ
  pub is : IsNeed f r need
  pub much : 12000 < need
  pub long : (16 < r.rows) ⊎ (16 < r.cols)

-- the rectangles that cutting comes to, from the rectangle of all cells on
pub data IsReached (f : Field) : Rect → Type 0 where
  Whole : IsReached f (all_cells f)
  First : {r : Rect} → IsReached f r → IsCut f r → IsReached f (first_part r)
  Second : {r : Rect} → IsReached f r → IsCut f r → IsReached f (second_part r)

-- a block by need is a reached rectangle that isn't cut
pub record IsBlock (f : Field) (r : Rect) : Type 0 where
  pub reached : IsReached f r
  pub kept : ¬ (IsCut f r)

-- blocks that are the blocks by need
pub record AreByNeed (f : Field) (count : ℕ) (rect : ℕ → Rect) (block : ℕ → ℕ → ℕ) : Type 0 where
  pub blocks : IsBlocks (all_cells f) count rect block
  pub each : (k : ℕ) → k < count → IsBlock f (rect k)
