-- The areas tile the coverage: of the faces exactly one counts 1 at a point off the lines, since all pieces together do.
use Rattle.std.proofs.Common.{◌≡◌, ◌≢◌, ℕ, ℤ, pos, ◌<◌, Bool, true, false, ◌&&◌, eqb, IsFalse, List, get_or, length, Contains, refl, sym, ◌∙◌, subst, arith, ⊎_elim, eq-eqb}
use Rattle.std.proofs.lemmas.Bool.{cases_eq, eqb-true, false≢true}
use Rattle.std.proofs.lemmas.Int.{ints}
use Rattle.std.proofs.lemmas.List.Elements.{Contains-get_or}
use Rattle.mesh_definitions.specs.Faces.{OnLine}
use Rattle.mesh_definitions.specs.Field.{Field, InCoverage}
use Rattle.mesh_definitions.specs.Laws.{MeshLaws, CountsOverPieces, CountsTheOutline, piece_count}
use Rattle.mesh_definitions.specs.Pieces.{Mesh}
use Rattle.mesh_definitions.specs.declared.Piece.{Piece}
use Rattle.mesh_definitions.specs.declared.Step.{Step}
use Rattle.chart_definitions.specs.Areas.{HasAreas}
use Rattle.chart_definitions.specs.Edges.{HasEdges}
use Rattle.chart_definitions.specs.Meaning.{OnEdge}
use Rattle.chart_definitions.specs.Truth.{IsPlaced, Tiles}
use Rattle.chart_model.specs.Areas.{IsInside, areas}
use Rattle.chart_model.specs.Lines.{area_segments}
use Rattle.chart_model.specs.declared.records.Feature.{Feature}
use Rattle.chart_model.specs.declared.records.Parts.{Parts}
use Rattle.tiling_laws.specs.EdgeLines.{AreasOnEdges, EdgesAreLines}
use Rattle.plane_geom.specs.Geom.{winding_number}
use Rattle.plane_geom.specs.declared.Point.{Point}
use Rattle.plane_laws.specs.Borders.{AreFromZero, part, total}
use Rattle.plane_laws.specs.CountLaws.{CountsInAnyOrder, EvenCount, OddCount}
use Rattle.plane_laws.specs.SumLaws.{OneOfSum, ShareOfMember, ShareOfSum, SharesApart}
use Rattle.shoal_buffer.specs.Charted.{ChartedView}

-- a piece isn't in two faces
not_both : (a b : Bool) → (a ≡ true → b ≡ true → ⊥) → IsFalse (a && b)
not_both true true f = absurd (f refl refl)
not_both true false f = refl
not_both false b f = refl

-- the laws of winding numbers, of sums and of edges
module _ (order : CountsInAnyOrder) (odd : OddCount) (even : EvenCount) (share : ShareOfSum Piece) (apart : SharesApart Piece) (member : ShareOfMember Piece) (one : OneOfSum Piece) (over : CountsOverPieces) (outline : CountsTheOutline) (lines : EdgesAreLines) (on_edges : AreasOnEdges) where
  module _ (f : Field) (v : ChartedView) (m : Mesh) (traces : List (List Step)) (face : Piece → ℕ) (c : Parts) (laws : MeshLaws f m) (edges : HasEdges m traces c) (have : HasAreas v f.levels m face c) where
    from_zero : (p : Point) → AreFromZero (piece_count m p) m.pieces
    from_zero p k d l = laws.counts p (get_or m.pieces k d) (Contains-get_or m.pieces k d l)

    -- what the pieces of a face count together
    abbrev face_count : Point → ℕ → ℤ
    face_count p k = part (piece_count m p) (λ q. eqb (face q) k) m.pieces

    counted : (p : Point) (k : ℕ) (d : Feature) → k < length (areas c) → winding_number (area_segments c (get_or (areas c) k d)) p ≡ face_count p k
    counted p k d l = sym (order _ _ p (have.outlines k d l)) ∙ over m (λ q. eqb (face q) k) p laws.pieces

    not_inside : (p : Point) (k : ℕ) (d : Feature) → k < length (areas c) → face_count p k ≡ pos 0 → ¬ (IsInside c (get_or (areas c) k d) p)
    not_inside p k d l e i = false≢true (sym ((even (area_segments c (get_or (areas c) k d)) p).1 (pos 0, counted p k d l ∙ e)) ∙ i.odd)

    inside : (p : Point) (k : ℕ) (d : Feature) → k < length (areas c) → face_count p k ≡ pos 1 → ¬ (OnEdge c p) → IsInside c (get_or (areas c) k d) p
    inside p k d l e off = record {
      off = λ o. off (on_edges c (get_or (areas c) k d) p o);
      odd = (odd (area_segments c (get_or (areas c) k d)) p).1 (pos 0, counted p k d l ∙ e);
    }

    -- the face of a piece that counts 1 counts 1, and the others 0
    its_face : (p : Point) (q : Piece) → Contains m.pieces q → piece_count m p q ≡ pos 1 → total (piece_count m p) m.pieces ≡ pos 1 → face_count p (face q) ≡ pos 1
    its_face p q i e sum =
        let a = member (piece_count m p) (λ r. eqb (face r) (face q)) m.pieces q (from_zero p) i (eq-eqb (face q) (face q) refl) in
        let b = (share (piece_count m p) (λ r. eqb (face r) (face q)) m.pieces (from_zero p)).1 in
        omega (arith, ints, a, b, e, sum)

    other_faces : (p : Point) (k j : ℕ) → k ≢ j → face_count p j ≡ pos 1 → total (piece_count m p) m.pieces ≡ pos 1 → face_count p k ≡ pos 0
    other_faces p k j d e sum =
        let a = apart (piece_count m p) (λ r. eqb (face r) k) (λ r. eqb (face r) j) m.pieces (from_zero p) (λ r. not_both (eqb (face r) k) (eqb (face r) j) (λ x y. d (sym (eqb-true (face r) k x) ∙ eqb-true (face r) j y))) in
        let b = (share (piece_count m p) (λ r. eqb (face r) k) m.pieces (from_zero p)).0 in
        omega (arith, ints, a, b, e, sum)

    no_face : (p : Point) (k : ℕ) → total (piece_count m p) m.pieces ≡ pos 0 → face_count p k ≡ pos 0
    no_face p k sum =
        let a = share (piece_count m p) (λ r. eqb (face r) k) m.pieces (from_zero p) in
        omega (arith, ints, a.0, a.1, sum)

    placed : (p : Point) → InCoverage f p → ¬ (OnEdge c p) → IsPlaced f v c p
    placed p there off =
        let clear : ¬ (OnLine m p) = λ l. off ((lines m traces c edges p).1 l) in
        let sum : total (piece_count m p) m.pieces ≡ pos 1 = outline m p laws.pieces ∙ laws.within_coverage p there clear in
        let q = one (piece_count m p) m.pieces (from_zero p) sum in
        let at_one = its_face p q.0 q.1 q.2 sum in
        let real = laws.counted p q.0 q.1 q.2 clear in
        record {
          at = face q.0;
          there = have.one_each.below q.0 q.1;
          inside = λ d. inside p (face q.0) d (have.one_each.below q.0 q.1) at_one off;
          alone = λ k d l i. ⊎_elim (λ e. e) (λ n. absurd (not_inside p k d l (other_faces p k (face q.0) n at_one sum) i)) (cases_eq k (face q.0));
          class = m.class q.0;
          real = real;
          one_class = λ K h. laws.one_class p K (m.class q.0) clear h real;
          tells = λ d. have.classes q.0 d q.1;
        }

    pub tiles : Tiles f v c
    tiles = record {
      placed = placed;
      no_edge = λ p out o. out (laws.lines_inside p ((lines m traces c edges p).0 o));
      no_area = λ p a out h i. not_inside p h.0 a h.1 (no_face p h.0 (outline m p laws.pieces ∙ laws.beyond_coverage p out)) (subst (λ z. IsInside c z p) (sym h.2) i);
    }
