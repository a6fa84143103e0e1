-- A face has one kind, and drawn sub-segments lie between faces.
use Rattle.std.proofs.Common.{◌≡◌, ◌↔◌, ℕ, Bool, true, false, not, IsFalse, Option, Some, None, option_map, map, Contains, Decides, refl, ap, ap₂, ◌∙◌}
use Rattle.std.proofs.lemmas.Bool.Decides.{Decides-and, Decides-eqb, Decides-like}
use Rattle.mesh_definitions.specs.Faces.Joined.{Here, Over}
use Rattle.mesh_definitions.specs.Faces.{Joined, NumbersFaces, borders, is_drawn, kind, same_class, same_kind, steps_of}
use Rattle.mesh_definitions.specs.Pieces.{Mesh, ahead, back, left_of}
use Rattle.mesh_definitions.specs.declared.Class.TheVariants.{Unsurveyed, Band}
use Rattle.mesh_definitions.specs.declared.Class.{Class}
use Rattle.mesh_definitions.specs.declared.Piece.{Piece}
use Rattle.mesh_definitions.specs.declared.Sub.{Sub}
use Rattle.plane_laws.proofs.Members.{contains, is_in, in_left, in_map, in_right}
use Rattle.plane_laws.specs.Borders.{HasPieces}

-- pieces that a chain joins are of one kind
kind_along : (m : Mesh) (p q : Piece) → Joined m p q → kind m p ≡ kind m q
kind_along m p q Here = refl
kind_along m p q (Over {q = n} a j) = a.alike ∙ kind_along m n q j

pub faces_have_kinds : (m : Mesh) (face : Piece → ℕ) → NumbersFaces m face → (p q : Piece) → Contains m.pieces p → Contains m.pieces q → face p ≡ face q → kind m p ≡ kind m q
faces_have_kinds m face numbers p q hp hq e = kind_along m p q ((numbers p q hp hq).0 e)

-- the test of classes is exact
same_class_tells : (a b : Class) → Decides (same_class a b) (a ≡ b)
same_class_tells Unsurveyed Unsurveyed = (λ e. refl, λ e. refl)
same_class_tells Unsurveyed (Band b) = (λ e. cc, λ e. cc)
same_class_tells (Band a) Unsurveyed = (λ e. cc, λ e. cc)
same_class_tells (Band a) (Band b) = Decides-like _ (λ e. ap Band e) (λ e. cc) (Decides-eqb a b)

-- and so is that of kinds
same_kind_tells : (m : Mesh) (p q : Piece) → Decides (same_kind m (Some p) (Some q)) (kind m p ≡ kind m q)
same_kind_tells m p q = Decides-like _ (λ e. ap₂ (λ c b. (c, b)) e.0 e.1) (λ e. (ap (λ k. k.0) e, ap (λ k. k.1) e)) (Decides-and _ _ (same_class_tells (m.class p) (m.class q)) (Decides-eqb (m.block p) (m.block q)))

if_not_false : (b : Bool) → not b ≡ false → b ≡ true
if_not_false true e = refl
if_not_false false e = cc

module _ (m : Mesh) (face : Piece → ℕ) (have : HasPieces (borders m) m.pieces) (numbers : NumbersFaces m face) (s : Sub) (there : Contains m.subs s) where
  -- what lies on the sides of a sub-segment is a piece of the mesh
  right_piece : (p : Piece) → m.right_of (ahead s) ≡ Some p → Contains m.pieces p
  right_piece p e = have.sides (ahead s) p (contains (steps_of m) (ahead s) (in_left (map ahead m.subs) (map back (map ahead m.subs)) (ahead s) (in_map ahead m.subs s (is_in m.subs s there)))) e

  left_piece : (q : Piece) → left_of m (ahead s) ≡ Some q → Contains m.pieces q
  left_piece q e = have.sides (back (ahead s)) q (contains (steps_of m) (back (ahead s)) (in_right (map ahead m.subs) (map back (map ahead m.subs)) (back (ahead s)) (in_map back (map ahead m.subs) (ahead s) (in_map ahead m.subs s (is_in m.subs s there))))) e

  by_sides : (r l : Option Piece) → m.right_of (ahead s) ≡ r → left_of m (ahead s) ≡ l → IsFalse (not (same_kind m r l)) ↔ (option_map face r ≡ option_map face l)
  by_sides None None e d = (λ h. refl, λ h. refl)
  by_sides None (Some q) e d = (λ h. cc, λ h. cc)
  by_sides (Some p) None e d = (λ h. cc, λ h. cc)
  by_sides (Some p) (Some q) e d =
      let tells = same_kind_tells m p q in
      let one = numbers p q (right_piece p e) (left_piece q d) in (
        λ h. ap Some (one.1 (Over (record { across = ahead s; there = there; right = e; left = d; alike = tells.0 (if_not_false _ h) }) Here)),
        λ h. ap not (tells.1 (kind_along m p q (one.0 cc))),
      )

  pub drawn_parts : IsFalse (is_drawn m s) ↔ (option_map face (m.right_of (ahead s)) ≡ option_map face (left_of m (ahead s)))
  drawn_parts = by_sides (m.right_of (ahead s)) (left_of m (ahead s)) refl refl
