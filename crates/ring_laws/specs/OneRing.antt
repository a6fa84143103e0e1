-- At most one of the rings of a joined face is exterior: what it takes.
use Rattle.std.specs.Prelude.{◌≡◌, ℕ, ℤ, pos, ◌+ℤ◌, ◌<ℤ◌, Bool, IsTrue, eqb, Option, Some, None, List, map, Contains}
use Rattle.mesh_definitions.specs.Faces.{NumbersFaces, borders, boundary, steps_of}
use Rattle.mesh_definitions.specs.Pieces.{Mesh, back, left_of, walked}
use Rattle.mesh_definitions.specs.Rings.{area_sum}
use Rattle.mesh_definitions.specs.declared.Piece.{Piece}
use Rattle.mesh_definitions.specs.declared.Step.{Step}
use Rattle.plane_geom.specs.declared.Seg.{Seg}
use Rattle.plane_laws.specs.Borders.{HasPieces}
use Rattle.plane_laws.proofs.Members.{Distinct, In}

-- the value on a side, 0 beyond the border
abbrev pub value_on : (Piece → ℤ) → Option Piece → ℤ
value_on W None = pos 0
value_on W (Some q) = W q

-- a number for each piece that is one more on the right of each step of a ring than on its left, and the same on both sides of all others: how often the ring goes round the piece
pub record GoesRound (m : Mesh) (ring : List Seg) : Type 0 where
  pub W : Piece → ℤ
  pub crosses : (s : Step) → In (steps_of m) s → In ring (walked m s) → value_on W (m.right_of s) ≡ value_on W (left_of m s) +ℤ pos 1
  pub stays : (s : Step) → In (steps_of m) s → ¬ (In ring (walked m s)) → ¬ (In ring (walked m (back s))) → value_on W (m.right_of s) ≡ value_on W (left_of m s)

-- a way over sub-segments, from piece to piece, leads out
pub data LeadsOut (m : Mesh) : Piece → Type 0 where
  Out : {q : Piece} (s : Step) → In (steps_of m) s → m.right_of s ≡ Some q → left_of m s ≡ None → LeadsOut m q
  Over : {q r : Piece} (s : Step) → In (steps_of m) s → m.right_of s ≡ Some q → left_of m s ≡ Some r → LeadsOut m r → LeadsOut m q

-- what is asked of a mesh
pub record IsPlane (m : Mesh) : Type 0 where
  pub pieces : HasPieces (borders m) m.pieces
  pub areas : (G : Piece → Bool) (q : Piece) → Contains m.pieces q → IsTrue (G q) → pos 0 <ℤ area_sum (map (walked m) (boundary m G))
  pub steps_once : Distinct (steps_of m)
  pub one_step : (s t : Step) → In (steps_of m) s → In (steps_of m) t → walked m s ≡ walked m t → s ≡ t
  pub out : (q : Piece) → Contains m.pieces q → LeadsOut m q

-- a ring of the boundary of face k
pub record IsOfFace (m : Mesh) (face : Piece → ℕ) (k : ℕ) (ring : List Seg) : Type 0 where
  pub once : Distinct ring
  pub from : (z : Seg) → In ring z → (t : Step) × In (boundary m (λ p. eqb (face p) k)) t × (walked m t ≡ z)
  pub round : GoesRound m ring

-- two rings of one face that have no segment in common aren't both exterior
abbrev pub OneIsExterior : Type 0
OneIsExterior = (m : Mesh) (face : Piece → ℕ) (k : ℕ) (ring other : List Seg) (p : Piece) → IsPlane m → NumbersFaces m face → Contains m.pieces p → face p ≡ k → IsOfFace m face k ring → IsOfFace m face k other → ((z : Seg) → In ring z → In other z → ⊥) →
    pos 0 <ℤ area_sum ring → pos 0 <ℤ area_sum other → ⊥
