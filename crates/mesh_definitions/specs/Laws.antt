-- What every mesh keeps.
use Rattle.std.specs.Prelude.{◌≡◌, Bool, ℤ, pos, ◌≤ℤ◌, true, map, Contains}
use Rattle.mesh_definitions.specs.Faces.{borders, boundary, OnLine}
use Rattle.mesh_definitions.specs.Field.{Field, InCoverage}
use Rattle.mesh_definitions.specs.Ground.{IsGround}
use Rattle.mesh_definitions.specs.Pieces.{Mesh, walked, same_piece}
use Rattle.mesh_definitions.specs.Rings.{area_sum}
use Rattle.mesh_definitions.specs.declared.Class.{Class}
use Rattle.mesh_definitions.specs.declared.Piece.{Piece}
use Rattle.plane_geom.specs.Geom.{winding_number}
use Rattle.plane_geom.specs.declared.Point.{Point}
use Rattle.plane_laws.specs.Borders.{HasPieces, IsPlacement, IsSameness, TurnsTwice, part, total}

-- the winding number at p of the outline of a piece, walked with the piece on the right
abbrev pub piece_count : Mesh → Point → Piece → ℤ
piece_count m p q = winding_number (map (walked m) (boundary m (same_piece q))) p

-- the winding number at p of the outline of all pieces
abbrev pub outline_count : Mesh → Point → ℤ
outline_count m p = winding_number (map (walked m) (boundary m (λ q. true))) p

-- The laws of the mesh of a field: each piece stands once, and each side of a step is one; no piece counts below 0; the outline of all pieces counts 1 in the coverage off the lines and 0 beyond it; the lines lie in the coverage; and off the lines a piece that counts 1 has the one class of the point.
pub record MeshLaws (f : Field) (m : Mesh) : Type 0 where
  pub pieces : HasPieces (borders m) m.pieces
  pub counts : (p : Point) (q : Piece) → Contains m.pieces q → pos 0 ≤ℤ piece_count m p q
  pub within_coverage : (p : Point) → InCoverage f p → ¬ (OnLine m p) → outline_count m p ≡ pos 1
  pub beyond_coverage : (p : Point) → ¬ (InCoverage f p) → outline_count m p ≡ pos 0
  pub lines_inside : (p : Point) → OnLine m p → InCoverage f p
  pub counted : (p : Point) (q : Piece) → Contains m.pieces q → piece_count m p q ≡ pos 1 → ¬ (OnLine m p) → IsGround f p (m.class q)
  pub one_class : (p : Point) (K L : Class) → ¬ (OnLine m p) → IsGround f p K → IsGround f p L → K ≡ L

-- a sub-segment that is walked back twice is as at first, and walked back it lies the other way round
abbrev pub WalksBothWays : Type 0
WalksBothWays = (m : Mesh) → TurnsTwice (borders m) × IsPlacement (borders m) (walked m)

-- the test whether two pieces are the same is exact
abbrev pub SamePiece : Type 0
SamePiece = IsSameness same_piece

-- in a mesh whose pieces stand once, the boundary of a set of pieces counts at each point the sum of what the outlines of its pieces count
abbrev pub CountsOverPieces : Type 0
CountsOverPieces = (m : Mesh) (F : Piece → Bool) (p : Point) → HasPieces (borders m) m.pieces → winding_number (map (walked m) (boundary m F)) p ≡ part (piece_count m p) F m.pieces

-- and all pieces together count what the outline counts
abbrev pub CountsTheOutline : Type 0
CountsTheOutline = (m : Mesh) (p : Point) → HasPieces (borders m) m.pieces → total (piece_count m p) m.pieces ≡ outline_count m p

-- the area sum of the boundary of a set of pieces is the sum of those of its pieces
abbrev pub AreaOverPieces : Type 0
AreaOverPieces = (m : Mesh) (F : Piece → Bool) → HasPieces (borders m) m.pieces → area_sum (map (walked m) (boundary m F)) ≡ part (λ q. area_sum (map (walked m) (boundary m (same_piece q)))) F m.pieces
