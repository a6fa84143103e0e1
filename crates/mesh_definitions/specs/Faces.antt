-- Faces, boundaries of sets of pieces, and drawn lines, over any mesh.
use Rattle.std.specs.Prelude.{◌≡◌, ◌↔◌, ℕ, ◌<◌, Bool, true, false, not, ◌&&◌, eqb, Option, Some, None, List, map, filter, Contains}
use Rattle.mesh_definitions.specs.Pieces.{Mesh, ahead, back, left_of}
use Rattle.mesh_definitions.specs.declared.Class.TheVariants.{Unsurveyed, Band}
use Rattle.mesh_definitions.specs.declared.Class.{Class}
use Rattle.mesh_definitions.specs.declared.Piece.{Piece}
use Rattle.mesh_definitions.specs.declared.Step.{Step}
use Rattle.mesh_definitions.specs.declared.Sub.{Sub}
use Rattle.plane_geom.specs.Geom.{OnSome}
use Rattle.plane_geom.specs.declared.Point.{Point}
use Rattle.plane_laws.specs.Borders as plane
use Rattle.plane_laws.specs.Borders.{Borders}

-- class and block of a piece: no line parts pieces of one kind
abbrev pub kind : Mesh → Piece → Class × ℕ
kind m p = (m.class p, m.block p)

-- two pieces share a sub-segment and are of one kind
pub record IsAdjacent (m : Mesh) (p q : Piece) : Type 0 where
  pub across : Step
  pub there : Contains m.subs across.sub
  pub right : m.right_of across ≡ Some p
  pub left : left_of m across ≡ Some q
  pub alike : kind m p ≡ kind m q

-- a chain of adjacent pieces joins them
pub data Joined (m : Mesh) : Piece → Piece → Type 0 where
  Here : {p : Piece} → Joined m p p
  Over : {p q r : Piece} → IsAdjacent m p q → Joined m q r → Joined m p r

-- a number for each piece, one number exactly for the pieces that chains join: its face
abbrev pub NumbersFaces : Mesh → (Piece → ℕ) → Type 0
NumbersFaces m face = (p q : Piece) → Contains m.pieces p → Contains m.pieces q → (face p ≡ face q) ↔ Joined m p q

-- the numbers are those below count, each of some piece
pub record IsGapless (m : Mesh) (number : Piece → ℕ) (count : ℕ) : Type 0 where
  pub below : (p : Piece) → Contains m.pieces p → number p < count
  pub used : (k : ℕ) → k < count → (p : Piece) × Contains m.pieces p × (number p ≡ k)

-- the sub-segments of a mesh as borders between its pieces
abbrev pub borders : Mesh → Borders Step Piece
borders m = record { listed = map ahead m.subs; back = back; right = m.right_of }

-- all sub-segments, each walked both ways
abbrev pub steps_of : Mesh → List Step
steps_of m = plane.steps (borders m)

-- the directed boundary of a set of pieces: the steps with the set on the right and not on the left
abbrev pub boundary : Mesh → (Piece → Bool) → List Step
boundary m F = plane.boundary (borders m) F

-- whether two classes are the same
abbrev pub same_class : Class → Class → Bool
same_class Unsurveyed Unsurveyed = true
same_class Unsurveyed (Band b) = false
same_class (Band a) Unsurveyed = false
same_class (Band a) (Band b) = eqb a b

abbrev pub same_kind : Mesh → Option Piece → Option Piece → Bool
same_kind m None None = true
same_kind m None (Some q) = false
same_kind m (Some p) None = false
same_kind m (Some p) (Some q) = same_class (m.class p) (m.class q) && eqb (m.block p) (m.block q)

-- a sub-segment is drawn where a side is missing, or its sides differ in class or in block
abbrev pub is_drawn : Mesh → Sub → Bool
is_drawn m s = not (same_kind m (m.right_of (ahead s)) (left_of m (ahead s)))

abbrev pub drawn : Mesh → List Sub
drawn m = filter (is_drawn m) m.subs

-- p lies on a drawn line
abbrev pub OnLine : Mesh → Point → Type 0
OnLine m p = OnSome (map m.ends (drawn m)) p
