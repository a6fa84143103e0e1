-- Pieces with numbers: where all pieces count 1 together at a rational point, the pieces of one number do, and where they count 0 those of none.
use Rattle.std.proofs.Common.{◌≡◌, ◌≢◌, ℕ, ℤ, pos, ◌<◌, Bool, true, false, ◌&&◌, eqb, IsFalse, List, get_or, length, map, Contains, IsPermutation, refl, sym, subst, ◌∙◌, arith, eq-eqb}
use Rattle.std.proofs.lemmas.Bool.{eqb-true}
use Rattle.std.proofs.lemmas.Int.{ints}
use Rattle.std.proofs.lemmas.List.Sorted.{IsPermutation-map}
use Rattle.mesh_definitions.specs.Faces.{borders, boundary}
use Rattle.mesh_definitions.specs.Laws.{SamePiece, WalksBothWays}
use Rattle.mesh_definitions.specs.Pieces.{Mesh, same_piece, walked}
use Rattle.mesh_definitions.specs.declared.Piece.{Piece}
use Rattle.mesh_definitions.specs.declared.Step.{Step}
use Rattle.chart_definitions.specs.Areas.{HasOutline}
use Rattle.chart_model.specs.Lines.{area_segments}
use Rattle.chart_model.specs.declared.records.Feature.{Feature}
use Rattle.chart_model.specs.declared.records.Parts.{Parts}
use Rattle.plane_geom.specs.Geom.{winding_number}
use Rattle.plane_geom.specs.declared.Seg.{Seg}
use Rattle.plane_laws.specs.Borders.{AreFromZero, HasPieces, part, total}
use Rattle.plane_laws.specs.CountLaws.{CountsInAnyOrder, EvenCount, OddCount}
use Rattle.plane_laws.specs.SumLaws.{CountOverPieces, OneOfSum, OutlineSum, ShareOfMember, ShareOfSum, SharesApart}
use Rattle.plane_strips.specs.Rational.{RationalPoint, magnified, odd_at, place}
use Rattle.check_laws.specs.Counts.{count_at, placed}
use Rattle.check_laws.proofs.Kept.{NonePass, OnePasses, map_twice}
use Rattle.check_laws.proofs.Placed.{placed_back}

-- two tests that never pass together
pub not_both : (a b : Bool) → (a ≡ true → b ≡ true → ⊥) → IsFalse (a && b)
not_both true true f = absurd (f refl refl)
not_both true false f = refl
not_both false b f = refl

-- the laws that are used of sums and counts
pub record SumLaws : Type 0 where
  pub order : CountsInAnyOrder
  pub odd : OddCount
  pub even : EvenCount
  pub share : ShareOfSum Piece
  pub apart : SharesApart Piece
  pub member : ShareOfMember Piece
  pub one : OneOfSum Piece
  pub over : CountOverPieces Step Piece
  pub outline : OutlineSum Step Piece
  pub ways : WalksBothWays
  pub same : SamePiece

module _ (laws : SumLaws) (m : Mesh) (have : HasPieces (borders m) m.pieces) (q : RationalPoint) where
  abbrev pub piece_at : Piece → ℤ
  piece_at p = count_at m q (same_piece p)

  pub over_pieces : (F : Piece → Bool) → count_at m q F ≡ part piece_at F m.pieces
  over_pieces F = laws.over (borders m) same_piece m.pieces F (placed q.w m) (place q) (laws.ways m).0 laws.same have (placed_back laws.ways q.w m)

  pub whole_outline : total piece_at m.pieces ≡ count_at m q (λ p. true)
  whole_outline = laws.outline (borders m) same_piece m.pieces (placed q.w m) (place q) (laws.ways m).0 laws.same have (placed_back laws.ways q.w m)

  -- what the segments of a feature count that has the pieces of one number
  counted : (c : Parts) (number : Piece → ℕ) (k : ℕ) (f : Feature) → HasOutline m c number k f → winding_number (map (magnified q.w) (area_segments c f)) (place q) ≡ count_at m q (λ p. eqb (number p) k)
  counted c number k f h =
      let steps = boundary m (λ p. eqb (number p) k) in
      sym (laws.order _ _ (place q) (subst (λ (xs : List Seg). IsPermutation xs (map (magnified q.w) (area_segments c f))) (map_twice (magnified q.w) (walked m) steps) (IsPermutation-map (magnified q.w) _ _ h)))

  module _ (zero_up : AreFromZero piece_at m.pieces) (number : Piece → ℕ) where
    abbrev shared : ℕ → ℤ
    shared k = part piece_at (λ p. eqb (number p) k) m.pieces

    own_share : (p : Piece) → Contains m.pieces p → piece_at p ≡ pos 1 → total piece_at m.pieces ≡ pos 1 → shared (number p) ≡ pos 1
    own_share p i e sum =
        let a = laws.member piece_at (λ r. eqb (number r) (number p)) m.pieces p zero_up i (eq-eqb (number p) (number p) refl) in
        let b = (laws.share piece_at (λ r. eqb (number r) (number p)) m.pieces zero_up).1 in
        omega (arith, ints, a, b, e, sum)

    other_share : (k j : ℕ) → k ≢ j → shared j ≡ pos 1 → total piece_at m.pieces ≡ pos 1 → shared k ≡ pos 0
    other_share k j d e sum =
        let a = laws.apart piece_at (λ r. eqb (number r) k) (λ r. eqb (number r) j) m.pieces zero_up (λ r. not_both (eqb (number r) k) (eqb (number r) j) (λ x y. d (sym (eqb-true (number r) k x) ∙ eqb-true (number r) j y))) in
        let b = (laws.share piece_at (λ r. eqb (number r) k) m.pieces zero_up).0 in
        omega (arith, ints, a, b, e, sum)

    no_share : (k : ℕ) → total piece_at m.pieces ≡ pos 0 → shared k ≡ pos 0
    no_share k sum =
        let a = laws.share piece_at (λ r. eqb (number r) k) m.pieces zero_up in
        omega (arith, ints, a.0, a.1, sum)

    module _ (c : Parts) (fs : List Feature) (below : (p : Piece) → Contains m.pieces p → number p < length fs) (outlines : (k : ℕ) (d : Feature) → k < length fs → HasOutline m c number k (get_or fs k d)) where
      abbrev pub marked : Feature → Bool
      marked f = odd_at (area_segments c f) q

      unmarked : (k : ℕ) (d : Feature) → k < length fs → shared k ≡ pos 0 → marked (get_or fs k d) ≡ false
      unmarked k d l e = (laws.even (map (magnified q.w) (area_segments c (get_or fs k d))) (place q)).1 (pos 0, counted c number k (get_or fs k d) (outlines k d l) ∙ (over_pieces (λ p. eqb (number p) k) ∙ e))

      is_marked : (k : ℕ) (d : Feature) → k < length fs → shared k ≡ pos 1 → marked (get_or fs k d) ≡ true
      is_marked k d l e = (laws.odd (map (magnified q.w) (area_segments c (get_or fs k d))) (place q)).1 (pos 0, counted c number k (get_or fs k d) (outlines k d l) ∙ (over_pieces (λ p. eqb (number p) k) ∙ e))

      pub none_marked : total piece_at m.pieces ≡ pos 0 → NonePass marked fs
      none_marked sum k d l = unmarked k d l (no_share k sum)

      pub one_marked : total piece_at m.pieces ≡ pos 1 → OnePasses marked fs
      one_marked sum =
          let p = laws.one piece_at m.pieces zero_up sum in
          let e = own_share p.0 p.1 p.2 sum in
          record {
            at = number p.0;
            within = below p.0 p.1;
            passes = λ d. is_marked (number p.0) d (below p.0 p.1) e;
            alone = λ k d l n. unmarked k d l (other_share k (number p.0) n e sum);
          }
