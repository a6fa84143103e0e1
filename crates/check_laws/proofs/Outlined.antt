-- Steps of the outline of a piece: those with the piece on the right and not on the left.
use Rattle.std.proofs.Common.{◌≡◌, Bool, true, false, not, ◌&&◌, Option, Some, None, refl, sym, ap, ◌∙◌}
use Rattle.mesh_definitions.specs.Faces.{borders, boundary}
use Rattle.mesh_definitions.specs.Laws.{SamePiece}
use Rattle.mesh_definitions.specs.Pieces.{Mesh, back, left_of, same_piece}
use Rattle.mesh_definitions.specs.declared.Piece.{Piece}
use Rattle.mesh_definitions.specs.declared.Step.{Step}
use Rattle.mesh_laws.proofs.Once.{step_sub}
use Rattle.plane_laws.specs.Borders.{steps, within}
use Rattle.plane_laws.proofs.Lists.{from_filter, in_filter}
use Rattle.plane_laws.proofs.Members.{In}
use Rattle.tiling_laws.proofs.BothSides.{listed}

some_of : (F : Piece → Bool) (o : Option Piece) → within F o ≡ true → (x : Piece) × (o ≡ Some x) × (F x ≡ true)
some_of F None e = absurd (cc (e))
some_of F (Some x) e = (x, refl, e)

pub both_true : (x y : Bool) → (x && not y) ≡ true → (x ≡ true) × (y ≡ false)
both_true true false e = (refl, refl)
both_true true true e = absurd (cc (e))
both_true false y e = absurd (cc (e))

make_true : (x y : Bool) → x ≡ true → y ≡ false → (x && not y) ≡ true
make_true true false e g = refl
make_true true true e g = absurd (cc (g))
make_true false y e g = absurd (cc (e))

module _ (m : Mesh) where
  -- a step with a piece on its right that isn't on its left too
  pub record IsBorder (s : Step) (p : Piece) : Type 0 where
    pub there : In m.subs s.sub
    pub right : m.right_of s ≡ Some p
    pub left : ¬ (left_of m s ≡ Some p)

  -- a step of a boundary is one
  pub border_of : (F : Piece → Bool) (s : Step) → In (boundary m F) s → (p : Piece) × IsBorder s p × (F p ≡ true)
  border_of F s i =
      let k = from_filter (λ x. within F (m.right_of x) && not (within F (m.right_of (back x)))) (steps (borders m)) s i in
      let b = both_true (within F (m.right_of s)) (within F (m.right_of (back s))) k.1 in
      let x = some_of F (m.right_of s) b.0 in
      let is : IsBorder s x.0 = record {
        there = step_sub m.subs s k.0;
        right = x.1;
        left = λ e. clash (within F (m.right_of (back s))) (ap (within F) e ∙ x.2) b.1;
      } in
      (x.0, is, x.2)
    where
      clash : (b : Bool) → b ≡ true → b ≡ false → ⊥
      clash true e g = absurd (cc (g))
      clash false e g = absurd (cc (e))

  -- and stands in the outline of its piece
  pub in_outline : SamePiece → (s : Step) (p : Piece) → IsBorder s p → In (boundary m (same_piece p)) s
  in_outline same s p b = in_filter (λ x. within (same_piece p) (m.right_of x) && not (within (same_piece p) (m.right_of (back x)))) (steps (borders m)) s (listed m s b.there)
      (make_true (within (same_piece p) (m.right_of s)) (within (same_piece p) (m.right_of (back s))) (ap (within (same_piece p)) b.right ∙ (same p p).1 refl) (other (m.right_of (back s)) b.left))
    where
      other : (o : Option Piece) → ¬ (o ≡ Some p) → within (same_piece p) o ≡ false
      other None n = refl
      other (Some r) n = by (same_piece p r) refl
        where
          by : (b : Bool) → same_piece p r ≡ b → same_piece p r ≡ false
          by true e = absurd (n (ap Some (sym ((same p r).0 e))))
          by false e = e
