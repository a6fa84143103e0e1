-- Laws of the pieces of the mesh of a field.
use Rattle.std.specs.Prelude.{◌≡◌, ℕ, pos, Contains}
use Rattle.mesh_definitions.specs.Faces.{borders, boundary}
use Rattle.mesh_definitions.specs.Field.{Field}
use Rattle.mesh_definitions.specs.Pieces.{mesh_of, same_piece}
use Rattle.mesh_definitions.specs.declared.Piece.{Piece}
use Rattle.mesh_definitions.specs.declared.Rect.{Rect}
use Rattle.mesh_laws.specs.Walks.{leaving}
use Rattle.plane_geom.specs.declared.Point.{Point}
use Rattle.plane_laws.specs.Borders.{HasPieces, total}

-- each piece stands once, and each side of a step is one of the pieces, or beyond the border
abbrev pub PiecesOnce : Type 0
PiecesOnce = (f : Field) (r : Rect) (block : ℕ → ℕ → ℕ) → HasPieces (borders (mesh_of f r block)) (mesh_of f r block).pieces

-- at every point as many steps of a piece's outline begin as end
abbrev pub PiecesClosed : Type 0
PiecesClosed = (f : Field) (r : Rect) (block : ℕ → ℕ → ℕ) (q : Piece) (p : Point) → Contains (mesh_of f r block).pieces q →
    total (leaving (mesh_of f r block) p) (boundary (mesh_of f r block) (same_piece q)) ≡ pos 0
