-- Laws of faces in any mesh: drawn sub-segments lie between faces, a face has one kind, and its outline is closed.
use Rattle.std.specs.Prelude.{◌≡◌, ◌↔◌, ℕ, ℤ, pos, ◌-ℤ◌, ◌*ℤ◌, IsFalse, cond, eqb, Option, Some, None, option_map, Contains}
use Rattle.mesh_definitions.specs.Faces.{NumbersFaces, borders, boundary, drawn, is_drawn, kind}
use Rattle.mesh_definitions.specs.Pieces.{Mesh, ahead, left_of, same_piece}
use Rattle.mesh_definitions.specs.declared.Piece.{Piece}
use Rattle.mesh_definitions.specs.declared.Sub.{Sub}
use Rattle.mesh_laws.specs.Walks.{here, leaving}
use Rattle.plane_geom.specs.declared.Point.{Point}
use Rattle.plane_laws.specs.Borders.{HasPieces, total}

-- 1 for a side with a piece of face k, else 0
abbrev pub at : (Piece → ℕ) → ℕ → Option Piece → ℤ
at face k None = pos 0
at face k (Some q) = cond (eqb (face q) k) (pos 1) (pos 0)

-- 1 for a sub-segment that leaves p when it is walked with face k on the right, -1 for one that comes to p, 0 for one that does neither or both, or has face k on both sides or on none
abbrev pub pull : Mesh → (Piece → ℕ) → ℕ → Point → Sub → ℤ
pull m face k p s = (at face k (m.right_of (ahead s)) -ℤ at face k (left_of m (ahead s))) *ℤ (here p (m.ends s).a -ℤ here p (m.ends s).b)

-- the outline of each piece leaves each point as often as it comes to it
abbrev pub AreClosed : Mesh → Type 0
AreClosed m = (q : Piece) (p : Point) → Contains m.pieces q → total (leaving m p) (boundary m (same_piece q)) ≡ pos 0

-- where the outlines of pieces are closed, those of faces are: walked with face k on the right, as many drawn sub-segments begin as end at each point
abbrev pub FacesBalance : Type 0
FacesBalance = (m : Mesh) (face : Piece → ℕ) → HasPieces (borders m) m.pieces → NumbersFaces m face → AreClosed m → (k : ℕ) (p : Point) → total (pull m face k p) (drawn m) ≡ pos 0

-- a sub-segment isn't drawn exactly where both its sides have one face, or neither has any; so one is drawn where its sides have different faces, or one of them has none
abbrev pub DrawnParts : Type 0
DrawnParts = (m : Mesh) (face : Piece → ℕ) → HasPieces (borders m) m.pieces → NumbersFaces m face → (s : Sub) → Contains m.subs s → IsFalse (is_drawn m s) ↔ (option_map face (m.right_of (ahead s)) ≡ option_map face (left_of m (ahead s)))

-- pieces of one face have one class and one block
abbrev pub FacesHaveKinds : Type 0
FacesHaveKinds = (m : Mesh) (face : Piece → ℕ) → NumbersFaces m face → (p q : Piece) → Contains m.pieces p → Contains m.pieces q → face p ≡ face q → kind m p ≡ kind m q
