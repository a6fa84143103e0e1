-- Faces as plain values: each piece's number, and what the numbers say.
use Rattle.std.specs.Prelude.{◌≡◌, ℕ, ◌+◌, ◌-◌, ◌*◌, ◌^◌, ◌<◌, ◌≤◌, cond, List, length, slice_index_or, Contains}
use Rattle.mesh_definitions.specs.Faces.{NumbersFaces, IsGapless}
use Rattle.mesh_definitions.specs.Field.{Field}
use Rattle.mesh_definitions.specs.Mesh.{surveyed}
use Rattle.mesh_definitions.specs.Pieces.{least_band, pieces_of, whole_mesh}
use Rattle.mesh_definitions.specs.declared.Class.TheVariants.{Unsurveyed}
use Rattle.mesh_definitions.specs.declared.Class.{Class}
use Rattle.mesh_definitions.specs.declared.Piece.{Piece}
use Rattle.mesh_definitions.specs.declared.Tri.{Tri}
use Rattle.tri_mesh.specs.TriNumbers.{tri_place}

-- so many rows and columns of cells; for each triangle, row by row and in a cell the upper one first, where its first piece's number stands and how many pieces it has; the faces that stand there; each face's class and block
pub record FacesView : Type 0 where
  pub rows : ℕ
  pub cols : ℕ
  pub starts : List ℕ
  pub counts : List ℕ
  pub numbers : List ℕ
  pub classes : List Class
  pub blocks : List ℕ

abbrev pub view_of : ℕ → ℕ → List ℕ → List ℕ → List ℕ → List Class → List ℕ → FacesView
view_of rows cols starts counts numbers classes blocks = record { rows = rows; cols = cols; starts = starts; counts = counts; numbers = numbers; classes = classes; blocks = blocks }

-- where the numbers of the pieces of a triangle by its number begin
abbrev pub start_of : FacesView → ℕ → ℕ
start_of v place = slice_index_or v.starts place 0

-- how many pieces a triangle has
abbrev pub piece_count : FacesView → Tri → ℕ
piece_count v t = slice_index_or v.counts (tri_place v.cols t) 0

-- the face of piece i of a triangle, counted from 0
abbrev pub face_at : FacesView → Tri → ℕ → ℕ
face_at v t i = slice_index_or v.numbers (start_of v (tri_place v.cols t) + i) 0

abbrev pub class_of : FacesView → ℕ → Class
class_of v face = slice_index_or v.classes face Unsurveyed

abbrev pub block_of : FacesView → ℕ → ℕ
block_of v face = slice_index_or v.blocks face 0

-- the band of a triangle's first piece
abbrev pub first_band : Field → Tri → ℕ
first_band f t = cond (surveyed f t) (least_band f t) 0

-- the face of a piece by name
abbrev pub face_in : Field → FacesView → Piece → ℕ
face_in f v p = face_at v p.tri (p.band - first_band f p.tri)

-- what all faces keep: at most 1,024 rows and columns of cells; a start and a count for each triangle, whose numbers stand within the list; each number is a face's; there are at most 2^26 faces and numbers
pub record AreSound (v : FacesView) : Type 0 where
  pub few_rows : v.rows ≤ 1024
  pub few_cols : v.cols ≤ 1024
  pub starts : length v.starts ≡ 2 * (v.rows * v.cols)
  pub counts : length v.counts ≡ 2 * (v.rows * v.cols)
  pub within : (k : ℕ) → k < length v.starts → start_of v k + slice_index_or v.counts k 0 ≤ length v.numbers
  pub known : (k : ℕ) → k < length v.numbers → slice_index_or v.numbers k 0 < length v.classes
  pub blocks : length v.blocks ≡ length v.classes
  pub few : length v.classes ≤ 2 ^ 26
  pub few_numbers : length v.numbers ≤ 2 ^ 26

-- the faces of a field with a block for each cell: as many pieces in each triangle as it has; two pieces have one number exactly where chains of adjacent pieces join them; the numbers run from 0 without a gap; and each face has the class and the block of its pieces
pub record AreFaces (f : Field) (block : ℕ → ℕ → ℕ) (v : FacesView) : Type 0 where
  pub rows : v.rows + 1 ≡ f.rows
  pub cols : v.cols + 1 ≡ f.cols
  pub pieces : (t : Tri) → t.row < v.rows → t.col < v.cols → piece_count v t ≡ length (pieces_of f t)
  pub faces : NumbersFaces (whole_mesh f block) (face_in f v)
  pub gapless : IsGapless (whole_mesh f block) (face_in f v) (length v.classes)
  pub classes : (p : Piece) → Contains (whole_mesh f block).pieces p → class_of v (face_in f v p) ≡ (whole_mesh f block).class p
  pub blocks : (p : Piece) → Contains (whole_mesh f block).pieces p → block_of v (face_in f v p) ≡ (whole_mesh f block).block p
