-- A piece that counts 1 at a point on no line has the class of the ground there.
use Rattle.std.proofs.Common.{◌≡◌, ℕ, ◌+◌, ◌-◌, ◌<◌, ℤ, pos, ◌+ℤ◌, ◌-ℤ◌, neg_ℤ, ◌<ℤ◌, Bool, true, false, cond, not, ◌&&◌, Option, Some, None, [], ◌∷◌, map, refl, sym, ap, subst, ◌∙◌, arith}
use Rattle.std.proofs.lemmas.Int.{ints, by_lt_z}
use Rattle.std.proofs.lemmas.List.Elements.{All-cons, All-nil}
use Rattle.std.specs.List.{Contains}
use Rattle.mesh_definitions.specs.Faces.{OnLine, borders, boundary}
use Rattle.mesh_definitions.specs.Field.{Field, IsField}
use Rattle.mesh_definitions.specs.Ground.{IsGround, IsInTri}
use Rattle.mesh_definitions.specs.Ground.Gives.{Open}
use Rattle.mesh_definitions.specs.Laws.{SamePiece, WalksBothWays, piece_count}
use Rattle.mesh_definitions.specs.Mesh.{all_cells, surveyed, tris}
use Rattle.mesh_definitions.specs.Pieces.{whole_mesh, walked, same_piece, back, least_band, greatest_band, chord_ends, span}
use Rattle.mesh_definitions.specs.declared.Class.TheVariants.{Unsurveyed, Band}
use Rattle.mesh_definitions.specs.declared.Piece.{Piece}
use Rattle.mesh_definitions.specs.declared.Step.{Step}
use Rattle.mesh_counts_laws.specs.Counts.{PiecesInTriangles}
use Rattle.mesh_laws.proofs.Closed.{outline_falls}
use Rattle.mesh_laws.proofs.Legs.{fall}
use Rattle.mesh_laws.proofs.Listed.{piece_there, tri_in}
use Rattle.mesh_laws.proofs.Once.{step_sub}
use Rattle.mesh_laws.proofs.Places.{in_range_low, in_range_high}
use Rattle.plane_geom.specs.Geom.{cross_of, turn_of}
use Rattle.plane_geom.specs.declared.Point.{Point}
use Rattle.plane_laws.proofs.Lists.{from_filter}
use Rattle.plane_laws.specs.Borders.{steps, within}
use Rattle.plane_laws.specs.Outlines.{outline, seg}
use Rattle.plane_laws.specs.SumLaws.{BoundarySum}
use Rattle.plane_laws.proofs.Convex.{apart_from_left}
use Rattle.plane_laws.proofs.Counts.{count_is, turns_back}
use Rattle.plane_laws.proofs.Members.{In, contains, is_in}
use Rattle.plane_laws.proofs.Sums.{total-map, total_agree}
use Rattle.mesh_ground_laws.specs.Grounds.{FieldsKeepGround}
use Rattle.mesh_lines_laws.proofs.Segments.{NotLeft}
use Rattle.mesh_lines_laws.proofs.ChordCorners.{starts}
use Rattle.mesh_ground_laws.proofs.Banded.{EndsIn, InBand, gives}
use Rattle.mesh_ground_laws.proofs.Drawn.{cell_col, cell_row, off_chords, step_in}

-- ---- segments that a line parts from a point

module _ (a b p : Point) (left : pos 0 <ℤ cross_of a b p) where
  -- what a segment from a point to the line's first point counts
  abbrev pub height : Point → ℤ
  height w = turn_of (seg w a) p

  -- with no end left of the line a segment counts what this falls by
  pub falls_by : (u v : Point) → NotLeft a b u → NotLeft a b v → turn_of (seg u v) p ≡ fall height (seg u v)
  falls_by u v hu hv =
      let ha : NotLeft a b a = (let e = starts a b in omega (arith, ints, e)) in
      let all = All-cons (NotLeft a b) u (v ∷ a ∷ []) hu (All-cons (NotLeft a b) v (a ∷ []) hv (All-cons (NotLeft a b) a [] ha (All-nil (NotLeft a b)))) in
      let z = sym (count_is (outline (u ∷ v ∷ a ∷ [])) p) ∙ apart_from_left (u ∷ v ∷ a ∷ []) p a b left all in
      closes (turn_of (seg u v) p) (turn_of (seg v a) p) (turn_of (seg a u) p) (turn_of (seg u a) p) z (turns_back (seg u a) p)
    where
      closes : (x y z w : ℤ) → x +ℤ (y +ℤ (z +ℤ pos 0)) ≡ pos 0 → z ≡ neg_ℤ w → x ≡ w -ℤ y
      closes x y z w e k = omega (arith, ints, e, k)

-- ---- pieces

some_of : {X : Type 0} (F : X → Bool) (o : Option X) → within F o ≡ true → (x : X) × (o ≡ Some x) × (F x ≡ true)
some_of F None e = absurd (cc (e))
some_of F (Some x) e = (x, refl, e)

both_true : (x y : Bool) → (x && y) ≡ true → x ≡ true
both_true true y e = refl
both_true false y e = e

module _ (same : SamePiece) (f : Field) (block : ℕ → ℕ → ℕ) (q : Piece) where
  -- a step of the piece's outline
  pub on_outline : (s : Step) → In (boundary (whole_mesh f block) (same_piece q)) s → In (whole_mesh f block).subs s.sub × ((whole_mesh f block).right_of s ≡ Some q)
  on_outline s i =
      let m = whole_mesh f block in
      let k = from_filter (λ x. within (same_piece q) (m.right_of x) && not (within (same_piece q) (m.right_of (back x)))) (steps (borders m)) s i in
      let x = some_of (same_piece q) (m.right_of s) (both_true (within (same_piece q) (m.right_of s)) (not (within (same_piece q) (m.right_of (back s)))) k.1) in
      (step_sub m.subs s k.0, x.1 ∙ ap Some (sym ((same q x.0).0 x.2)))

module _ (sum : BoundarySum Step Piece) (ways : WalksBothWays) (same : SamePiece) (inside : PiecesInTriangles) (f : Field) (h : IsField f) (block : ℕ → ℕ → ℕ) (p : Point) (q : Piece) (there : Contains (whole_mesh f block).pieces q) where
  -- where no end of its steps lies left of a line, the piece counts nothing left of it
  pub counts_nothing : (a b : Point) → pos 0 <ℤ cross_of a b p → ((s : Step) → In (boundary (whole_mesh f block) (same_piece q)) s → NotLeft a b (walked (whole_mesh f block) s).a × NotLeft a b (walked (whole_mesh f block) s).b) → piece_count (whole_mesh f block) p q ≡ pos 0
  counts_nothing a b left ends =
      let m = whole_mesh f block in
      let outer = boundary m (same_piece q) in
      let k = piece_there f (all_cells f) q (is_in m.pieces q there) in
      count_is (map (walked m) outer) p
      ∙ (total-map (λ s. turn_of s p) (walked m) outer
      ∙ (total_agree (λ s. turn_of (walked m s) p) (λ s. fall (height a b p left) (walked m s)) outer (λ s i. let e = ends s i in falls_by a b p left (walked m s).a (walked m s).b e.0 e.1)
      ∙ outline_falls sum ways f (all_cells f) block (height a b p left) q k.0 k.1))

  module _ (one : piece_count (whole_mesh f block) p q ≡ pos 1) (off : ¬ (OnLine (whole_mesh f block) p)) where
    not_none : piece_count (whole_mesh f block) p q ≡ pos 0 → ⊥
    not_none e = omega (arith, ints, one, e)

    has : IsInTri f q.tri p
    has = inside f block h p q there not_none

    module _ (known : surveyed f q.tri ≡ true) (a : q.tri.row + 1 < f.rows) (b : q.tri.col + 1 < f.cols) where
      ends : (s : Step) → In (boundary (whole_mesh f block) (same_piece q)) s → EndsIn f h q.tri a b q.band (walked (whole_mesh f block) s)
      ends s i = let k = on_outline same f block q s i in step_in f h block s.sub s.forward q k.0 k.1 a b known

      band : InBand f h q.tri a b q.band p
      band = record {
        deep = λ k level l. by_lt_z (pos 0) (cross_of (chord_ends f q.tri k).a (chord_ends f q.tri k).b p)
            (λ left. absurd (not_none (counts_nothing (chord_ends f q.tri k).a (chord_ends f q.tri k).b left (λ s i. let e = ends s i in (e.0.deep k level l, e.1.deep k level l)))))
            (λ right. right);
        shoal = λ k level l. by_lt_z (pos 0) (cross_of (chord_ends f q.tri k).b (chord_ends f q.tri k).a p)
            (λ left. absurd (not_none (counts_nothing (chord_ends f q.tri k).b (chord_ends f q.tri k).a left (λ s i. let e = ends s i in (e.0.shoal k level l, e.1.shoal k level l)))))
            (λ right. right);
      }

    ground : IsGround f p ((whole_mesh f block).class q)
    ground = by (surveyed f q.tri) refl
      where
        by : (x : Bool) → surveyed f q.tri ≡ x → IsGround f p (cond (surveyed f q.tri) (Band q.band) Unsurveyed)
        by true known =
            let k = piece_there f (all_cells f) q (is_in (whole_mesh f block).pieces q there) in
            let a = cell_row f h block q.tri.row q.tri.col k.0 in
            let b = cell_col f h block q.tri.row q.tri.col k.0 in
            let j : In (span (least_band f q.tri) (greatest_band f q.tri)) q.band = subst (λ x. In (cond x (span (least_band f q.tri) (greatest_band f q.tri)) (0 ∷ [])) q.band) known k.1 in
            let low = in_range_low (least_band f q.tri) (greatest_band f q.tri + 1 - least_band f q.tri) q.band j in
            let high = in_range_high (least_band f q.tri) (greatest_band f q.tri + 1 - least_band f q.tri) q.band j in
            subst (IsGround f p) (sym (ap (λ x. cond x (Band q.band) Unsurveyed) known))
            (record {
              tri = q.tri;
              there = contains (tris (all_cells f)) q.tri (tri_in (all_cells f) q.tri k.0);
              has = has;
              gives = gives f h q.tri a b q.band p (band known a b) has (off_chords f h block p off q.tri k.0 known a b) known low (omega (arith, low, high));
            })
        by false bare =
            let k = piece_there f (all_cells f) q (is_in (whole_mesh f block).pieces q there) in
            subst (IsGround f p) (sym (ap (λ x. cond x (Band q.band) Unsurveyed) bare))
            (record { tri = q.tri; there = contains (tris (all_cells f)) q.tri (tri_in (all_cells f) q.tri k.0); has = has; gives = Open bare })

pub fields_keep_ground : BoundarySum Step Piece → WalksBothWays → SamePiece → PiecesInTriangles → FieldsKeepGround
fields_keep_ground sum ways same inside f block h p q there one off = ground sum ways same inside f h block p q there one off
