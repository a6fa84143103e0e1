-- The outline of a face is the sum of those of its pieces, and only drawn sub-segments are left of it.
use Rattle.std.proofs.Common.{◌≡◌, ℕ, ℤ, pos, ◌+ℤ◌, ◌-ℤ◌, ◌*ℤ◌, neg_ℤ, Bool, true, false, cond, eqb, Option, Some, None, option_map, map, refl, ap, ap₂, sym, ◌∙◌, arith}
use Rattle.std.proofs.lemmas.Int.{ints}
use Rattle.mesh_definitions.specs.Faces.{NumbersFaces, borders, boundary, drawn, is_drawn, steps_of}
use Rattle.mesh_definitions.specs.Laws.{SamePiece, WalksBothWays}
use Rattle.mesh_definitions.specs.Pieces.{Mesh, ahead, back, left_of, same_piece, walked}
use Rattle.mesh_definitions.specs.declared.Piece.{Piece}
use Rattle.mesh_definitions.specs.declared.Step.{Step}
use Rattle.mesh_definitions.specs.declared.Sub.{Sub}
use Rattle.mesh_laws.proofs.FaceKinds.{drawn_parts}
use Rattle.mesh_laws.specs.FaceLaws.{AreClosed, at, pull}
use Rattle.mesh_laws.specs.Walks.{here, leaving}
use Rattle.plane_geom.specs.declared.Point.{Point}
use Rattle.plane_laws.proofs.Members.{contains}
use Rattle.plane_laws.proofs.Sums.{total-add, total-append, total-filter, total-map, total-zero, total_agree, total_same}
use Rattle.plane_laws.specs.Borders.{HasPieces, IsSigned, beside, part, total, within}
use Rattle.plane_laws.specs.SumLaws.{BoundarySum, SumOverPieces}

-- the pieces of face k
abbrev pub of_face : (Piece → ℕ) → ℕ → Piece → Bool
of_face face k q = eqb (face q) k

-- a side counts where it is within those pieces
at_side : (face : Piece → ℕ) (k : ℕ) (o : Option Piece) → at face k o ≡ cond (within (of_face face k) o) (pos 1) (pos 0)
at_side face k None = refl
at_side face k (Some q) = refl

-- sides with one number have face k both or neither
at_same : (face : Piece → ℕ) (k : ℕ) (r l : Option Piece) → option_map face r ≡ option_map face l → at face k r ≡ at face k l
at_same face k None None e = refl
at_same face k None (Some q) e = cc
at_same face k (Some p) None e = cc
at_same face k (Some p) (Some q) e = let same : face p ≡ face q = cc in ap (λ z. cond (eqb z k) (pos 1) (pos 0)) same

-- a value that is taken forward for the right side and back for the left one
two_sides : (r l : Bool) (u v : ℤ) → cond r (u -ℤ v) (pos 0) +ℤ cond l (v -ℤ u) (pos 0) ≡ (cond r (pos 1) (pos 0) -ℤ cond l (pos 1) (pos 0)) *ℤ (u -ℤ v)
two_sides true true u v = omega (arith, ints)
two_sides true false u v = omega (arith, ints)
two_sides false true u v = omega (arith, ints)
two_sides false false u v = omega (arith, ints)

-- where both sides count the same, nothing is left
no_pull : (x y z : ℤ) → x ≡ y → (x -ℤ y) *ℤ z ≡ pos 0
no_pull x y z e = ap (λ w. w *ℤ z) apart ∙ nothing
  where
    apart : x -ℤ y ≡ pos 0
    apart = omega (arith, ints, e)

    nothing : pos 0 *ℤ z ≡ pos 0
    nothing = omega (arith, ints)

opposite : (u v : ℤ) → v -ℤ u ≡ neg_ℤ (u -ℤ v)
opposite u v = omega (arith, ints)

if_drawn : (b : Bool) (x : ℤ) → (b ≡ false → x ≡ pos 0) → cond b x (pos 0) ≡ x
if_drawn true x h = refl
if_drawn false x h = sym (h refl)

if_closed : (b : Bool) (x : ℤ) → x ≡ pos 0 → cond b x (pos 0) ≡ pos 0
if_closed true x e = e
if_closed false x e = refl

module _ (m : Mesh) (face : Piece → ℕ) (k : ℕ) (p : Point) where
  -- what a step counts where face k is on its right
  abbrev counted : Step → ℤ
  counted x = cond (within (of_face face k) (m.right_of x)) (leaving m p x) (pos 0)

  -- a sub-segment that is walked both ways
  walked_twice : (s : Sub) → counted (ahead s) +ℤ counted (back (ahead s)) ≡ pull m face k p s
  walked_twice s =
      two_sides (within (of_face face k) (m.right_of (ahead s))) (within (of_face face k) (left_of m (ahead s))) (here p (m.ends s).a) (here p (m.ends s).b)
      ∙ ap₂ (λ x y. (x -ℤ y) *ℤ (here p (m.ends s).a -ℤ here p (m.ends s).b)) (sym (at_side face k (m.right_of (ahead s)))) (sym (at_side face k (left_of m (ahead s))))

  -- the steps with face k on the right, summed up by sub-segments
  beside_face : total (leaving m p) (beside (borders m) (of_face face k)) ≡ total (pull m face k p) m.subs
  beside_face =
      total-filter (leaving m p) (λ x. within (of_face face k) (m.right_of x)) (steps_of m)
      ∙ total-append counted (map ahead m.subs) (map back (map ahead m.subs))
      ∙ ap₂ ◌+ℤ◌ (total-map counted ahead m.subs) (total-map counted back (map ahead m.subs) ∙ total-map (λ x. counted (back x)) ahead m.subs)
      ∙ sym (total-add (λ s. counted (ahead s)) (λ s. counted (back (ahead s))) m.subs)
      ∙ total_same (λ s. counted (ahead s) +ℤ counted (back (ahead s))) (pull m face k p) walked_twice m.subs

  -- where pieces are closed, so are all pieces of face k together
  pieces_closed : AreClosed m → part (λ q. total (leaving m p) (boundary m (same_piece q))) (of_face face k) m.pieces ≡ pos 0
  pieces_closed closed =
      total_agree (λ q. cond (of_face face k q) (total (leaving m p) (boundary m (same_piece q))) (pos 0)) (λ q. pos 0) m.pieces (λ q i. if_closed (of_face face k q) (total (leaving m p) (boundary m (same_piece q))) (closed q p (contains m.pieces q i)))
      ∙ total-zero m.pieces

  -- only drawn sub-segments count
  drawn_alone : HasPieces (borders m) m.pieces → NumbersFaces m face → total (pull m face k p) (drawn m) ≡ total (pull m face k p) m.subs
  drawn_alone have numbers =
      total-filter (pull m face k p) (is_drawn m) m.subs
      ∙ total_agree (λ s. cond (is_drawn m s) (pull m face k p s) (pos 0)) (pull m face k p) m.subs (λ s i. if_drawn (is_drawn m s) (pull m face k p s) (λ undrawn. no_pull (at face k (m.right_of (ahead s))) (at face k (left_of m (ahead s))) (here p (m.ends s).a -ℤ here p (m.ends s).b) (at_same face k (m.right_of (ahead s)) (left_of m (ahead s)) ((drawn_parts m face have numbers s (contains m.subs s i)).0 undrawn))))

-- a step that is walked back counts the opposite
is_signed : WalksBothWays → (m : Mesh) (p : Point) → IsSigned (borders m) (leaving m p)
is_signed walks m p = λ x there. ap (λ s. here p s.a -ℤ here p s.b) ((walks m).1 x there) ∙ opposite (here p (walked m x).a) (here p (walked m x).b)

pub faces_balance : BoundarySum Step Piece → SumOverPieces Step Piece → WalksBothWays → SamePiece → (m : Mesh) (face : Piece → ℕ) → HasPieces (borders m) m.pieces → NumbersFaces m face → AreClosed m → (k : ℕ) (p : Point) → total (pull m face k p) (drawn m) ≡ pos 0
faces_balance boundary_sum over_pieces walks same m face have numbers closed k p =
    drawn_alone m face k p have numbers
    ∙ sym (beside_face m face k p)
    ∙ sym (boundary_sum (borders m) (of_face face k) (leaving m p) (walks m).0 (is_signed walks m p))
    ∙ over_pieces (borders m) same_piece m.pieces (of_face face k) (leaving m p) (walks m).0 same have (is_signed walks m p)
    ∙ pieces_closed m face k p closed
