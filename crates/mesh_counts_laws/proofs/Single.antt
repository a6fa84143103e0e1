-- The pieces of the mesh of a field count 0 or 1, and no two count at one point.
use Rattle.std.proofs.Common.{◌≡◌, ◌≢◌, ⊎_elim, inl, inr, ℕ, ℤ, pos, ◌≤ℤ◌, Bool, true, false, true≢false, cond, ◌&&◌, IsFalse, Contains, refl, sym, subst, ◌∙◌, arith}
use Rattle.std.specs.Prelude.{int_le, int_lt, ◌-◌}
use Rattle.std.proofs.lemmas.Int.{ints, by_lt_z}
use Rattle.std.proofs.lemmas.List.Elements.{All-contains_itself, All-weaker}
use Rattle.mesh_definitions.specs.Field.{Field, IsField}
use Rattle.mesh_definitions.specs.Laws.{CountsOverPieces, CountsTheOutline, SamePiece, piece_count}
use Rattle.mesh_definitions.specs.Mesh.{all_cells}
use Rattle.mesh_definitions.specs.Pieces.{same_piece, whole_mesh}
use Rattle.mesh_definitions.specs.declared.Piece.{Piece}
use Rattle.mesh_laws.specs.PieceLaws.{PiecesOnce}
use Rattle.plane_geom.specs.declared.Point.{Point}
use Rattle.plane_laws.specs.Borders.{AreFromZero, part, total}
use Rattle.plane_laws.specs.SumLaws.{ShareOfMember, ShareOfSum, SharesApart}
use Rattle.mesh_counts_laws.specs.Counts.{IsSingle, OutlineIsCoverage, PiecesCountApart, PiecesCountOnce, PiecesFromZero, SetsCountOnce}

-- a number from 0 up to one that is 0 or 1
single_below : (z w : ℤ) → pos 0 ≤ℤ z → z ≤ℤ w → IsSingle w → IsSingle z
single_below z w low high s = by_lt_z (pos 0) z
    (λ l. inr (⊎_elim (λ e. absurd (omega (arith, ints, l, high, e))) (λ e. omega (arith, ints, l, high, e)) s))
    (λ l. inl (omega (arith, ints, low, l)))

single_test : (b : Bool) → IsSingle (cond b (pos 1) (pos 0))
single_test true = inr refl
single_test false = inl refl

at_most_one : (z : ℤ) → IsSingle z → z ≤ℤ pos 1
at_most_one z s = ⊎_elim (λ e. omega (arith, ints, e)) (λ e. omega (arith, ints, e)) s

one_of : (z : ℤ) → IsSingle z → z ≢ pos 0 → z ≡ pos 1
one_of z s some = ⊎_elim (λ e. absurd (some e)) (λ e. e) s

-- two tests that have one thing pass nothing else, where the things differ
both_false : (x y : Bool) → (x ≡ true → y ≡ true → ⊥) → IsFalse (x && y)
both_false true true h = absurd (h refl refl)
both_false true false h = refl
both_false false y h = refl

module _ (counts : CountsOverPieces) (outline : CountsTheOutline) (share : ShareOfSum Piece) (once : PiecesOnce) (from_zero : PiecesFromZero) (exact : OutlineIsCoverage) (f : Field) (block : ℕ → ℕ → ℕ) (h : IsField f) (p : Point) where
  none_negative : AreFromZero (piece_count (whole_mesh f block) p) (whole_mesh f block).pieces
  none_negative =
      let m = whole_mesh f block in
      All-weaker (Contains m.pieces) (λ q. pos 0 ≤ℤ piece_count m p q) (λ q there. from_zero f block h p q there) m.pieces (All-contains_itself m.pieces)

  whole_single : IsSingle (total (piece_count (whole_mesh f block) p) (whole_mesh f block).pieces)
  whole_single = subst IsSingle (sym (outline (whole_mesh f block) p (once f (all_cells f) block) ∙ exact f block h p))
      (single_test ((int_le (f.x 0) p.x && int_lt p.x (f.x (f.cols - 1))) && (int_le (f.y (f.rows - 1)) p.y && int_lt p.y (f.y 0))))

  set_single : (F : Piece → Bool) → IsSingle (part (piece_count (whole_mesh f block) p) F (whole_mesh f block).pieces)
  set_single F =
      let m = whole_mesh f block in
      let s = share (piece_count m p) F m.pieces none_negative in
      single_below (part (piece_count m p) F m.pieces) (total (piece_count m p) m.pieces) s.0 s.1 whole_single

  module _ (same : SamePiece) (apart : SharesApart Piece) (member : ShareOfMember Piece) (q r : Piece) (there_q : Contains (whole_mesh f block).pieces q) (there_r : Contains (whole_mesh f block).pieces r) where
    abbrev of_piece : Piece → ℤ
    of_piece x = part (piece_count (whole_mesh f block) p) (same_piece x) (whole_mesh f block).pieces

    not_both : same_piece q r ≡ false → piece_count (whole_mesh f block) p q ≡ pos 1 → piece_count (whole_mesh f block) p r ≡ pos 1 → ⊥
    not_both other one_q one_r =
        let m = whole_mesh f block in
        let g = piece_count m p in
        let d = apart g (same_piece q) (same_piece r) m.pieces none_negative
        (λ x. both_false (same_piece q x) (same_piece r x) (λ a b. true≢false (sym ((same q r).1 ((same q x).0 a ∙ sym ((same r x).0 b))) ∙ other))) in
        let a : g q ≤ℤ of_piece q = member g (same_piece q) m.pieces q none_negative there_q ((same q q).1 refl) in
        let b : g r ≤ℤ of_piece r = member g (same_piece r) m.pieces r none_negative there_r ((same r r).1 refl) in
        let most = at_most_one (total g m.pieces) whole_single in
        omega (arith, ints, d, a, b, most, one_q, one_r)

    one_piece : IsSingle (piece_count (whole_mesh f block) p q) → IsSingle (piece_count (whole_mesh f block) p r) → piece_count (whole_mesh f block) p q ≢ pos 0 → piece_count (whole_mesh f block) p r ≢ pos 0 → q ≡ r
    one_piece single_q single_r some_q some_r = by (same_piece q r) refl
      where
        by : (x : Bool) → same_piece q r ≡ x → q ≡ r
        by true e = (same q r).0 e
        by false e = absurd (not_both e (one_of (piece_count (whole_mesh f block) p q) single_q some_q) (one_of (piece_count (whole_mesh f block) p r) single_r some_r))

pub sets_count_once : CountsOverPieces → CountsTheOutline → ShareOfSum Piece → PiecesOnce → PiecesFromZero → OutlineIsCoverage → SetsCountOnce
sets_count_once counts outline share once from_zero exact f block h F p =
    subst IsSingle (sym (counts (whole_mesh f block) F p (once f (all_cells f) block))) (set_single counts outline share once from_zero exact f block h p F)

pub pieces_count_once : SetsCountOnce → PiecesCountOnce
pieces_count_once sets f block h p q there = sets f block h (same_piece q) p

pub pieces_count_apart : CountsOverPieces → CountsTheOutline → ShareOfSum Piece → PiecesOnce → PiecesFromZero → OutlineIsCoverage → SamePiece → SharesApart Piece → ShareOfMember Piece → PiecesCountOnce → PiecesCountApart
pieces_count_apart counts outline share once from_zero exact same apart member single f block h p q r there_q there_r some_q some_r =
    one_piece counts outline share once from_zero exact f block h p same apart member q r there_q there_r (single f block h p q there_q) (single f block h p r there_r) some_q some_r
