-- An area that has a point has a piece that counts there, or has it on its outline: so the point lies in the piece's cell.
use Rattle.std.proofs.Common.{◌≡◌, ◌≢◌, ⊎_elim, inl, inr, ℕ, ◌+◌, ◌<◌, ℤ, pos, ◌+ℤ◌, Bool, true, false, cond, not, ◌&&◌, eqb, List, [], ◌∷◌, map, get_or, length, Contains, refl, sym, ◌∙◌, subst, arith}
use Rattle.std.proofs.lemmas.Bool.{and_parts, eqb-true, false≢true}
use Rattle.std.proofs.lemmas.Int.{ints, by_lt_z}
use Rattle.std.proofs.lemmas.List.Sorted.{Contains-permutation, IsPermutation-sym}
use Rattle.chart_definitions.specs.Areas.{HasAreas}
use Rattle.chart_model.specs.Areas.{IsInside, areas}
use Rattle.chart_model.specs.Lines.{area_segments}
use Rattle.chart_model.specs.declared.records.Feature.{Feature}
use Rattle.chart_model.specs.declared.records.Parts.{Parts}
use Rattle.mesh_counts_laws.specs.Counts.{PiecesInTriangles}
use Rattle.mesh_definitions.specs.Faces.{borders, boundary, steps_of}
use Rattle.mesh_definitions.specs.Field.{Field, IsField}
use Rattle.mesh_definitions.specs.Laws.{CountsOverPieces, SamePiece, WalksBothWays, piece_count}
use Rattle.mesh_definitions.specs.Mesh.{all_cells}
use Rattle.mesh_definitions.specs.Pieces.{Mesh, left_of, walked, whole_mesh}
use Rattle.mesh_definitions.specs.declared.Piece.{Piece}
use Rattle.mesh_definitions.specs.declared.Step.{Step}
use Rattle.mesh_laws.proofs.Listed.{piece_there}
use Rattle.overview_laws.proofs.Cells.{counts_in, on_step_in}
use Rattle.overview_laws.specs.StaysShoal.{HasPoint}
use Rattle.plane_geom.specs.Geom.{IsOn, OnSome, winding_number}
use Rattle.plane_geom.specs.declared.Point.{Point}
use Rattle.plane_laws.proofs.Lists.{from_filter, from_map}
use Rattle.plane_laws.proofs.Members.{In, contains, is_in}
use Rattle.plane_laws.specs.Borders.{HasPieces, part, within}
use Rattle.plane_laws.specs.CountLaws.{CountsInAnyOrder, EvenCount}
use Rattle.plane_laws.specs.SumLaws.{BoundarySum}
use Rattle.shoal_buffer.specs.Charted.{ChartedView}
use Rattle.tiling_laws.proofs.AreaDepths.{on_side}
use Rattle.tri_mesh.proofs.Signs.{InCell}

-- a value in a set that isn't 0
abbrev Found : {Q : Type 0} → (Q → ℤ) → (Q → Bool) → List Q → Type 0
Found {Q} f F xs = (q : Q) × In xs q × (F q ≡ true) × (f q ≢ pos 0)

either_way : {P : Type 0} (z : ℤ) → (z ≡ pos 0 → P) → (z ≢ pos 0 → P) → P
either_way z f g = by_lt_z z (pos 0)
    (λ low. g (λ e. absurd (omega (arith, ints, low, e))))
    (λ high. by_lt_z (pos 0) z (λ more. g (λ e. absurd (omega (arith, ints, more, e)))) (λ less. f (omega (arith, ints, high, less))))

-- where the sum over a set isn't 0 there is one
some_value : {Q : Type 0} (f : Q → ℤ) (F : Q → Bool) (xs : List Q) → part f F xs ≢ pos 0 → Found f F xs
some_value f F [] h = absurd (h refl)
some_value {Q} f F (x ∷ xs) h = by_test (F x) refl (λ n. let r = some_value f F xs n in (r.0, inr r.1, r.2, r.3)) h
  where
    by_test : (b : Bool) → F x ≡ b → (part f F xs ≢ pos 0 → Found f F (x ∷ xs)) → (cond b (f x) (pos 0) +ℤ part f F xs) ≢ pos 0 → Found f F (x ∷ xs)
    by_test true e rest h = either_way (f x) (λ (z : f x ≡ pos 0). rest (λ (y : part f F xs ≡ pos 0). h (omega (arith, ints, z, y)))) (λ (n : f x ≢ pos 0). (x, inl refl, e, n))
    by_test false e rest h = rest (λ (y : part f F xs ≡ pos 0). h (omega (arith, ints, y)))

module _ (sum : BoundarySum Step Piece) (ways : WalksBothWays) (same : SamePiece) (inside : PiecesInTriangles) (order : CountsInAnyOrder) (even : EvenCount) (over : CountsOverPieces) where
  module _ (f : Field) (h : IsField f) (block : ℕ → ℕ → ℕ) (v : ChartedView) (levels : List ℤ) (face : Piece → ℕ) (c : Parts) (pieces : HasPieces (borders (whole_mesh f block)) (whole_mesh f block).pieces) (have : HasAreas v levels (whole_mesh f block) face c) where
    abbrev m : Mesh
    m = whole_mesh f block

    abbrev its : ℕ → Piece → Bool
    its k q = eqb (face q) k

    -- a piece of an area's face in whose cell a point lies
    pub record HasPiece (k : ℕ) (p : Point) : Type 0 where
      pub piece : Piece
      pub there : Contains m.pieces piece
      pub of_face : face piece ≡ k
      pub in_cell : InCell f piece.tri.row piece.tri.col p

    cell_of : (q : Piece) → Contains m.pieces q → (q.tri.row + 1 < f.rows) × (q.tri.col + 1 < f.cols)
    cell_of q there =
        let c = (piece_there f (all_cells f) q (is_in m.pieces q there)).0 in
        let south = c.south in
        let east = c.east in
        (omega (arith, south), omega (arith, east))

    from_outline : (p : Point) (k : ℕ) (d : Feature) → k < length (areas c) → OnSome (area_segments c (get_or (areas c) k d)) p → HasPiece k p
    from_outline p k d l o =
        let segments = area_segments c (get_or (areas c) k d) in
        let outline = map (walked m) (boundary m (its k)) in
        let i : In outline o.segment = is_in outline o.segment (Contains-permutation segments outline o.segment (IsPermutation-sym outline segments (have.outlines k d l)) o.there) in
        let t = from_map (walked m) (boundary m (its k)) o.segment i in
        let test : Step → Bool = λ u. within (its k) (m.right_of u) && not (within (its k) (left_of m u)) in
        let kept = from_filter test (steps_of m) t.0 t.1 in
        let there : Contains (steps_of m) t.0 = contains (steps_of m) t.0 kept.0 in
        let q = on_side (its k) (m.right_of t.0) (and_parts (within (its k) (m.right_of t.0)) (not (within (its k) (left_of m t.0))) kept.1).0 in
        let known = pieces.sides t.0 q.0 there q.1 in
        let cell = cell_of q.0 known in
        record { piece = q.0; there = known; of_face = eqb-true (face q.0) k q.2; in_cell = on_step_in f h block q.0 cell.0 cell.1 p t.0 there q.1 (subst (λ z. IsOn z p) (sym t.2) o.on) }

    from_inside : (p : Point) (k : ℕ) (d : Feature) → k < length (areas c) → IsInside c (get_or (areas c) k d) p → HasPiece k p
    from_inside p k d l i =
        let segments = area_segments c (get_or (areas c) k d) in
        let total : winding_number segments p ≡ part (piece_count m p) (its k) m.pieces = sym (order _ _ p (have.outlines k d l)) ∙ over m (its k) p pieces in
        let q = some_value (piece_count m p) (its k) m.pieces (λ z. false≢true (sym ((even segments p).1 (pos 0, total ∙ z)) ∙ i.odd)) in
        let there : Contains m.pieces q.0 = contains m.pieces q.0 q.1 in
        let cell = cell_of q.0 there in
        record { piece = q.0; there = there; of_face = eqb-true (face q.0) k q.2; in_cell = counts_in f h block q.0 cell.0 cell.1 sum ways same inside p there q.3 }

    pub has_piece : (p : Point) (a : Feature) (i : Contains (areas c) a) → HasPoint c a p → HasPiece i.0 p
    has_piece p a i has = ⊎_elim
        (λ o. from_outline p i.0 a i.1 (subst (λ z. OnSome (area_segments c z) p) (sym i.2) o))
        (λ n. from_inside p i.0 a i.1 (subst (λ z. IsInside c z p) (sym i.2) n))
        has
