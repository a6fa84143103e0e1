-- The closed pieces of the mesh of a field.
use Rattle.std.specs.Prelude.{◌≡◌, ◌≢◌, ℕ, pos, ◌≤ℤ◌, ◌<ℤ◌, All, Contains}
use Rattle.mesh_definitions.specs.Faces.{boundary}
use Rattle.mesh_definitions.specs.Field.{Field, IsField}
use Rattle.mesh_definitions.specs.Laws.{piece_count}
use Rattle.mesh_definitions.specs.Pieces.{Mesh, same_piece, walked, whole_mesh}
use Rattle.mesh_definitions.specs.declared.Piece.{Piece}
use Rattle.mesh_definitions.specs.declared.Step.{Step}
use Rattle.plane_geom.specs.Geom.{cross_of}
use Rattle.plane_geom.specs.declared.Point.{Point}

-- p lies in the closed piece q: strictly left of no step of its outline, which is walked with the piece on the right
abbrev pub IsInPiece : Mesh → Piece → Point → Type 0
IsInPiece m q p = All (λ s. cross_of (walked m s).a (walked m s).b p ≤ℤ pos 0) (boundary m (same_piece q))

-- a piece of the mesh of a field is convex, and its outline runs clockwise: each step of the outline begins and ends in the closed piece
abbrev pub PiecesAreConvex : Type 0
PiecesAreConvex = (f : Field) (block : ℕ → ℕ → ℕ) → IsField f → (q : Piece) (s : Step) → Contains (whole_mesh f block).pieces q → Contains (boundary (whole_mesh f block) (same_piece q)) s →
    IsInPiece (whole_mesh f block) q (walked (whole_mesh f block) s).a × IsInPiece (whole_mesh f block) q (walked (whole_mesh f block) s).b

-- it counts 0 at a point that lies strictly left of a step of its outline
abbrev pub NoneBeyondSteps : Type 0
NoneBeyondSteps = (f : Field) (block : ℕ → ℕ → ℕ) → IsField f → (p : Point) (q : Piece) (s : Step) → Contains (whole_mesh f block).pieces q → Contains (boundary (whole_mesh f block) (same_piece q)) s →
    pos 0 <ℤ cross_of (walked (whole_mesh f block) s).a (walked (whole_mesh f block) s).b p → piece_count (whole_mesh f block) p q ≡ pos 0

-- so it counts at points of the closed piece alone
abbrev pub PiecesCountInside : Type 0
PiecesCountInside = (f : Field) (block : ℕ → ℕ → ℕ) → IsField f → (p : Point) (q : Piece) → Contains (whole_mesh f block).pieces q → piece_count (whole_mesh f block) p q ≢ pos 0 → IsInPiece (whole_mesh f block) q p
