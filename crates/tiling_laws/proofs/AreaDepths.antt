-- No depth area at a node tells more water than the node has.
use Rattle.std.proofs.Common.{◌≡◌, ◌≢◌, ℕ, ◌<◌, ◌+◌, ℤ, pos, ◌+ℤ◌, ◌≤ℤ◌, ◌<ℤ◌, ◌*◌, Bool, true, false, cond, not, ◌&&◌, eqb, Option, Some, None, List, [], ◌∷◌, map, get_or, length, Contains, FitsSigned, refl, sym, ap, ◌∙◌, subst, arith, inl, inr, ⊎_elim}
use Rattle.std.proofs.lemmas.Bool.{and_parts, eqb-true, false≢true}
use Rattle.std.proofs.lemmas.Int.{ints, by_lt_z}
use Rattle.std.proofs.lemmas.List.Sorted.{Contains-permutation, IsPermutation-sym}
use Rattle.std.specs.Int.{w32}
use Rattle.std.proofs.lemmas.List.Sums.{count_by-le-length}
use Rattle.std.specs.Prelude.{unwrap_or, int_le}
use Rattle.mesh_definitions.specs.Faces.{borders, boundary, steps_of}
use Rattle.mesh_definitions.specs.Field.{Field, IsGeneralised, band_at, depth_at, field_of, point}
use Rattle.mesh_definitions.specs.Laws.{CountsOverPieces, piece_count}
use Rattle.mesh_definitions.specs.Pieces.{Mesh, left_of, walked}
use Rattle.mesh_definitions.specs.Ranges.{IsRange}
use Rattle.mesh_definitions.specs.declared.Class.TheVariants.{Unsurveyed, Band}
use Rattle.mesh_definitions.specs.declared.Piece.{Piece}
use Rattle.mesh_definitions.specs.declared.Step.{Step}
use Rattle.chart_definitions.specs.Areas.{HasAreas, IsAreaOf, IsDepthArea}
use Rattle.chart_definitions.specs.Laws.{KindsDiffer, OneRange}
use Rattle.chart_definitions.specs.Truth.{NoDeeperArea}
use Rattle.chart_model.specs.Areas.{IsInside, areas}
use Rattle.chart_model.specs.Lines.{area_segments}
use Rattle.chart_model.specs.declared.records.Feature.{Feature}
use Rattle.chart_model.specs.declared.records.Parts.{Parts}
use Rattle.tiling_laws.proofs.Levels.{end_fits, end_no_deeper}
use Rattle.tiling_laws.proofs.Opened.{charted_no_deeper, charted_within}
use Rattle.tiling_laws.specs.Depths.{IsNode, IsOfNode, NodeLaws}
use Rattle.depth_grid.specs.Grid.{GridView}
use Rattle.depth_grid.specs.declared.node.NodeId.{NodeId}
use Rattle.depth_rounding.specs.Bands.{AreLevels, band_of, shoaler_end}
use Rattle.plane_geom.specs.Geom.{IsOn, OnSome, winding_number}
use Rattle.plane_laws.proofs.Lists.{from_map, from_filter}
use Rattle.plane_laws.proofs.Members.{In, contains, is_in}
use Rattle.plane_laws.specs.Borders.{HasPieces, part, within}
use Rattle.plane_laws.specs.CountLaws.{CountsInAnyOrder, EvenCount}
use Rattle.rule_sheet.specs.Values.{SheetView}
use Rattle.shoal_buffer.specs.Charted.{ChartedView}

either_way : {P : Type 0} (z : ℤ) → (z ≡ pos 0 → P) → (z ≢ pos 0 → P) → P
either_way z f g = by_lt_z z (pos 0)
    (λ (low : z <ℤ pos 0). g (λ e. absurd (omega (arith, ints, low, e))))
    (λ (high : pos 0 ≤ℤ z). by_lt_z (pos 0) z (λ (more : pos 0 <ℤ z). g (λ e. absurd (omega (arith, ints, more, e)))) (λ (less : z ≤ℤ pos 0). f (omega (arith, ints, high, less))))

-- a value in a set that isn't 0
abbrev Found : {Q : Type 0} → (Q → ℤ) → (Q → Bool) → List Q → Type 0
Found {Q} f F xs = (q : Q) × In xs q × (F q ≡ true) × (f q ≢ pos 0)

further : {Q : Type 0} (f : Q → ℤ) (F : Q → Bool) (x : Q) (xs : List Q) → Found f F xs → Found f F (x ∷ xs)
further f F x xs r = (r.0, inr r.1, r.2, r.3)

-- where a share isn't 0 there is one
some_value : {Q : Type 0} (f : Q → ℤ) (F : Q → Bool) (xs : List Q) → part f F xs ≢ pos 0 → Found f F xs
some_value f F [] h = absurd (h refl)
some_value {Q} f F (x ∷ xs) h = by_test (F x) refl (λ n. further f F x xs (some_value f F xs n)) h
  where
    by_test : (b : Bool) → F x ≡ b → (part f F xs ≢ pos 0 → Found f F (x ∷ xs)) → (cond b (f x) (pos 0) +ℤ part f F xs) ≢ pos 0 → Found f F (x ∷ xs)
    by_test true e rest h = either_way (f x) (λ (z : f x ≡ pos 0). rest (λ (y : part f F xs ≡ pos 0). h (omega (arith, ints, z, y)))) (λ (n : f x ≢ pos 0). (x, inl refl, e, n))
    by_test false e rest h = rest (λ (y : part f F xs ≡ pos 0). h (omega (arith, ints, y)))

-- the piece of a set on a side
pub on_side : (F : Piece → Bool) (side : Option Piece) → within F side ≡ true → (q : Piece) × (side ≡ Some q) × (F q ≡ true)
on_side F None h = absurd (false≢true h)
on_side F (Some q) h = (q, refl, h)

-- the laws of counts and of areas
module _ (order : CountsInAnyOrder) (even : EvenCount) (over : CountsOverPieces) (one_range : OneRange) (kinds : KindsDiffer) where
  module _ (g : GridView) (s : SheetView) (v : ChartedView) (m : Mesh) (face : Piece → ℕ) (c : Parts) (levels : AreLevels s.levels) (gen : IsGeneralised g s.aspect s.disc_radius s.step_from s.steps v) (pieces : HasPieces (borders m) m.pieces) (nodes : NodeLaws (field_of v s.levels) m) (have : HasAreas v s.levels m face c) where
    abbrev field : Field
    field = field_of v s.levels

    abbrev its : ℕ → Piece → Bool
    its k q = eqb (face q) k

    -- a piece of an area's face that has the node
    abbrev HasNode : NodeId → ℕ → Type 0
    HasNode n k = (q : Piece) × Contains m.pieces q × (face q ≡ k) × IsOfNode field m n q

    from_outline : (n : NodeId) (x : ℤ) (k : ℕ) (d : Feature) → IsNode field n x → k < length (areas c) → OnSome (area_segments c (get_or (areas c) k d)) (point field n) → HasNode n k
    from_outline n x k d node l o =
        let segments = area_segments c (get_or (areas c) k d) in
        let outline = map (walked m) (boundary m (its k)) in
        let i : In outline o.segment = is_in outline o.segment (Contains-permutation segments outline o.segment (IsPermutation-sym outline segments (have.outlines k d l)) o.there) in
        let t = from_map (walked m) (boundary m (its k)) o.segment i in
        let test : Step → Bool = λ u. within (its k) (m.right_of u) && not (within (its k) (left_of m u)) in
        let there : Contains (steps_of m) t.0 = contains (steps_of m) t.0 (from_filter test (steps_of m) t.0 t.1).0 in
        let inside = (and_parts (within (its k) (m.right_of t.0)) (not (within (its k) (left_of m t.0))) (from_filter test (steps_of m) t.0 t.1).1).0 in
        let q = on_side (its k) (m.right_of t.0) inside in
        (q.0, pieces.sides t.0 q.0 there q.1, eqb-true (face q.0) k q.2, nodes.on_outline n x t.0 q.0 node there q.1 (subst (λ z. IsOn z (point field n)) (sym t.2) o.on))

    from_inside : (n : NodeId) (x : ℤ) (k : ℕ) (d : Feature) → IsNode field n x → k < length (areas c) → IsInside c (get_or (areas c) k d) (point field n) → HasNode n k
    from_inside n x k d node l i =
        let p = point field n in
        let segments = area_segments c (get_or (areas c) k d) in
        let same : winding_number segments p ≡ part (piece_count m p) (its k) m.pieces = sym (order _ _ p (have.outlines k d l)) ∙ over m (its k) p pieces in
        let q = some_value (piece_count m p) (its k) m.pieces (λ z. false≢true (sym ((even segments p).1 (pos 0, same ∙ z)) ∙ i.odd)) in
        (q.0, contains m.pieces q.0 q.1, eqb-true (face q.0) k q.2, nodes.counts n x q.0 node (contains m.pieces q.0 q.1) q.3)

    -- what an area of a node's band tells is no deeper than the node is charted
    no_deeper : (n : NodeId) (x low high : ℤ) (a : Feature) → IsNode field n x → IsAreaOf v s.levels (Band (band_at field n)) a → IsDepthArea low high a → FitsSigned w32 low → low ≤ℤ x
    no_deeper n x low high a node told area fits =
        let range : IsRange v s.levels (band_at field n) told.0 told.1 = told.2 in
        let depth : depth_at field n ≡ x = ap (λ o. unwrap_or o (pos 0)) node.depth in
        let band : band_at field n ≡ band_of s.levels x = ap (band_of s.levels) depth in
        let bounds = charted_within s.step_from s.steps v.opened v.charted range.least gen.charted range.extent.0.stands in
        let least : range.least ≤ℤ x = range.extent.0.least x (n.row * length v.grid.xs + n.col, node.depth) in
        let from : told.0 ≡ shoaler_end s.levels range.least (band_of s.levels x) = subst (λ b. told.0 ≡ shoaler_end s.levels range.least b) band range.from in
        let small : band_of s.levels x < length s.levels + 1 = omega (arith, count_by-le-length (λ l. int_le l x) s.levels) in
        let end : FitsSigned w32 told.0 = subst (FitsSigned w32) (sym from) (end_fits s.levels range.least (band_of s.levels x) levels small bounds.0 bounds.1) in
        let same : low ≡ told.0 = (one_range low high told.0 told.1 a area told.3).0 fits end in
        subst (λ z. z ≤ℤ x) (sym (same ∙ from)) (end_no_deeper s.levels range.least x levels.rising least)

    with_piece : (n : NodeId) (x low high : ℤ) (k : ℕ) (d : Feature) → IsNode field n x → HasNode n k → IsDepthArea low high (get_or (areas c) k d) → FitsSigned w32 low → low ≤ℤ x
    with_piece n x low high k d node q area fits =
        let a = get_or (areas c) k d in
        let told : IsAreaOf v s.levels (m.class q.0) a = subst (λ z. IsAreaOf v s.levels (m.class q.0) (get_or (areas c) z d)) q.2 (have.classes q.0 d q.1) in
        ⊎_elim
        (λ (e : m.class q.0 ≡ Unsurveyed). absurd (kinds low high a area (subst (λ K. IsAreaOf v s.levels K a) e told)))
        (λ (e : m.class q.0 ≡ Band (band_at field n)). no_deeper n x low high a node (subst (λ K. IsAreaOf v s.levels K a) e told) area fits)
        q.3

    pub areas_no_deeper : NoDeeperArea g field c
    areas_no_deeper n d a low high source there area fits touch =
        let x = charted_no_deeper g s.aspect s.disc_radius s.step_from s.steps s.levels v n d gen source in
        let k = there.0 in
        let piece : HasNode n k = ⊎_elim
        (λ (o : OnSome (area_segments c a) (point field n)). from_outline n x.0 k a x.1 there.1 (subst (λ z. OnSome (area_segments c z) (point field n)) (sym there.2) o))
        (λ (i : IsInside c a (point field n)). from_inside n x.0 k a x.1 there.1 (subst (λ z. IsInside c z (point field n)) (sym there.2) i))
        touch in
        let low_is : low ≤ℤ x.0 = with_piece n x.0 low high k a x.1 piece (subst (λ z. IsDepthArea low high z) (sym there.2) area) fits in
        omega (arith, ints, low_is, x.2)
