-- Numbers of items as numbers of faces.
use Rattle.std.specs.Prelude.{◌≡◌, ℕ, ◌<◌, List, length, slice_index, slice_index_or}
use Rattle.mesh_definitions.specs.Field.{Field}
use Rattle.mesh_definitions.specs.Pieces.{mesh_of}
use Rattle.mesh_definitions.specs.declared.Class.TheVariants.{Unsurveyed}
use Rattle.mesh_definitions.specs.declared.Class.{Class}
use Rattle.mesh_definitions.specs.declared.Piece.{Piece}
use Rattle.mesh_definitions.specs.declared.Rect.{Rect}
use Rattle.face_fill.specs.Items.{item_of, piece_of}

-- the number of a piece, by the numbers of items
abbrev pub number_of : Field → Rect → List ℕ → List ℕ → Piece → ℕ
number_of f r starts numbers p = slice_index numbers (item_of f r starts p)

-- the first n items have their class and their block at the numbers that they have
pub record AreKinds (f : Field) (r : Rect) (block : ℕ → ℕ → ℕ) (starts owners numbers : List ℕ) (count n : ℕ) (classes : List Class) (blocks : List ℕ) : Type 0 where
  pub classes_full : length classes ≡ count
  pub blocks_full : length blocks ≡ count
  pub each_class : (i : ℕ) → i < n → slice_index_or classes (slice_index numbers i) Unsurveyed ≡ (mesh_of f r block).class (piece_of f r starts owners i)
  pub each_block : (i : ℕ) → i < n → slice_index_or blocks (slice_index numbers i) 0 ≡ (mesh_of f r block).block (piece_of f r starts owners i)
