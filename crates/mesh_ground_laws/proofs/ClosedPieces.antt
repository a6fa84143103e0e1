-- A piece is convex: no step of its outline has an end of another on its left. So it counts nothing beyond the closed piece.
use Rattle.std.proofs.Common.{◌≡◌, ℕ, ◌+◌, ◌-◌, ◌<◌, ◌≤◌, pos, Bool, true, false, cond, Some, [], Contains, refl, sym, ap, subst, ◌∙◌, arith}
use Rattle.std.proofs.lemmas.Int.{by_lt_z}
use Rattle.std.proofs.lemmas.List.Elements.{All-contains_itself, All-weaker}
use Rattle.mesh_definitions.specs.Cuts.{crossing}
use Rattle.mesh_definitions.specs.Faces.{boundary}
use Rattle.mesh_definitions.specs.Field.{Field, IsField, point, band_at}
use Rattle.mesh_definitions.specs.Laws.{SamePiece, WalksBothWays}
use Rattle.mesh_definitions.specs.Mesh.{Walk, all_cells, corners, from, right_tri, surveyed, to}
use Rattle.mesh_definitions.specs.Pieces.{chord_ends, chord_levels, greatest_band, least_band, piece_at, same_piece, span, walked, whole_mesh}
use Rattle.mesh_definitions.specs.declared.Link.{Link}
use Rattle.mesh_definitions.specs.declared.Piece.{Piece}
use Rattle.mesh_definitions.specs.declared.Step.{Step}
use Rattle.mesh_definitions.specs.declared.Sub.TheVariants.{Part, Chord}
use Rattle.mesh_definitions.specs.declared.Sub.{Sub}
use Rattle.mesh_definitions.specs.declared.Tri.{Tri}
use Rattle.depth_grid.specs.declared.node.NodeId.{NodeId}
use Rattle.mesh_counts_laws.specs.Counts.{PiecesInTriangles}
use Rattle.mesh_counts_laws.proofs.InTriangles.{between_not_left}
use Rattle.mesh_counts_laws.proofs.Slots.{graded}
use Rattle.mesh_laws.proofs.Listed.{piece, piece_there}
use Rattle.mesh_laws.proofs.Once.{chord_there, mapped, right_is}
use Rattle.mesh_lines_laws.proofs.ChordCorners.{ChordOf, chord_of, corner_in}
use Rattle.mesh_lines_laws.proofs.ChordCorners.ChordOf.{OneDeep, OneShoal}
use Rattle.mesh_lines_laws.proofs.Segments.{NotLeft}
use Rattle.plane_geom.specs.Geom.{cross_of}
use Rattle.plane_geom.specs.Segments.{turned}
use Rattle.plane_geom.specs.declared.Point.{Point}
use Rattle.plane_geom.specs.declared.Seg.{Seg}
use Rattle.plane_laws.specs.SumLaws.{BoundarySum}
use Rattle.plane_laws.proofs.Members.{In, is_in}
use Rattle.tri_mesh.specs.Fields.{upwards}
use Rattle.mesh_ground_laws.specs.ClosedPieces.{IsInPiece, NoneBeyondSteps, PiecesAreConvex, PiecesCountInside}
use Rattle.mesh_ground_laws.proofs.Banded.{EndsIn, IsLevel, other_of}
use Rattle.mesh_ground_laws.proofs.Counted.{counts_nothing, on_outline}
use Rattle.mesh_ground_laws.proofs.Drawn.{cell_col, cell_row, levels_known, step_in}
use Rattle.mesh_ground_laws.proofs.Legs.{beside_part, leg_there, legs_beside, part_not_left}

-- no end of the second segment lies left of the first
abbrev Beside : Seg → Seg → Type 0
Beside s z = NotLeft s.a s.b z.a × NotLeft s.a s.b z.b

-- a triangle with a chord is surveyed
chord_known : (f : Field) (t : Tri) (k : ℕ) → In (chord_levels f t) k → surveyed f t ≡ true
chord_known f t k i = by (surveyed f t) refl i
  where
    by : (x : Bool) → surveyed f t ≡ x → In (cond x (span (least_band f t + 1) (greatest_band f t)) []) k → surveyed f t ≡ true
    by true e j = e
    by false e j = absurd j

module _ (f : Field) (h : IsField f) (block : ℕ → ℕ → ℕ) (q : Piece) (in_rows : q.tri.row + 1 < f.rows) (in_cols : q.tri.col + 1 < f.cols) where
  -- a step with the piece on its right
  pub record IsOfOutline (u : Sub) (forward : Bool) : Type 0 where
    pub there : In (whole_mesh f block).subs u
    pub right : (whole_mesh f block).right_of (record { sub = u; forward = forward }) ≡ Some q

  abbrev place : Sub → Bool → Seg
  place u forward = walked (whole_mesh f block) (record { sub = u; forward = forward })

  part_right : (l : Link) (k : ℕ) (forward : Bool) → IsOfOutline (Part l k) forward → right_tri (all_cells f) (record { link = l; forward = forward }) ≡ Some q.tri
  part_right l k forward r = let x = mapped (piece_at f k) (right_tri (all_cells f) (record { link = l; forward = forward })) q r.right in x.1 ∙ ap (λ p. Some p.tri) x.2

  chord_tri : (t : Tri) (k : ℕ) (forward : Bool) → IsOfOutline (Chord t k) forward → piece t (cond forward k (k - 1)) ≡ q
  chord_tri t k forward r = let e = r.right in cc (e)

  -- ---- a line with no corner of the triangle on its left has no end of a step there

  module _ (x y : Point) (all : (n : NodeId) → In (corners q.tri) n → NotLeft x y (point f n)) where
    abbrev Both : Seg → Type 0
    Both s = NotLeft x y s.a × NotLeft x y s.b

    way_both : (s : Seg) (forward : Bool) → Both s → Both (cond forward s (turned s))
    way_both s true b = b
    way_both s false b = (b.1, b.0)

    part_both : (l : Link) (k : ℕ) (forward : Bool) → IsOfOutline (Part l k) forward → Both (place (Part l k) forward)
    part_both l k forward r =
        let w : Walk = record { link = l; forward = forward } in
        let e = part_right l k forward r in
        let c = right_is (all_cells f) l.way l.row l.col forward q.tri e in
        let leg = (legs_beside f h q.tri in_rows in_cols w (leg_there (all_cells f) l.way l.row l.col forward q.tri e)).0 in
        part_not_left f h w leg k x y (all (from w) (ends forward _ _ c.first c.second)) (all (to w) (ends forward _ _ c.second c.first))
      where
        ends : (z : Bool) (a c : NodeId) → In (corners q.tri) a → In (corners q.tri) c → In (corners q.tri) (cond z a c)
        ends true a c i j = i
        ends false a c i j = j

    crossing_both : (u v : NodeId) → In (corners q.tri) u → In (corners q.tri) v → (k : ℕ) → band_at f u < k → k ≤ band_at f v → NotLeft x y (crossing f (upwards u v) k)
    crossing_both u v iu iv k low high =
        between_not_left x y (point f u) (point f v) (crossing f (upwards u v))
        (graded f h u v (corner_in f h q.tri in_rows in_cols u iu) (corner_in f h q.tri in_rows in_cols v iv) (other_of f u v (omega (arith, low, high))))
        (all u iu) (all v iv) k

    chord_both : (k : ℕ) → IsLevel f h q.tri in_rows in_cols k → Both (chord_ends f q.tri k)
    chord_both k level = by (chord_of f h q.tri k in_rows in_cols level.above level.most)
      where
        by : ChordOf f h k q.tri → Both (chord_ends f q.tri k)
        by (OneDeep p r s ring dp sr ss e) = subst Both (sym e) (crossing_both r p ring.corner_q ring.corner_p k sr dp, crossing_both s p ring.corner_r ring.corner_p k ss dp)
        by (OneShoal p r s ring sp dr ds e) = subst Both (sym e) (crossing_both p s ring.corner_p ring.corner_r k sp ds, crossing_both p r ring.corner_p ring.corner_q k sp dr)

    step_both : (u : Sub) (forward : Bool) → IsOfOutline u forward → Both (place u forward)
    step_both (Part l k) forward r = part_both l k forward r
    step_both (Chord t k) forward r =
        let e : t ≡ q.tri = ap (λ p. p.tri) (chord_tri t k forward r) in
        let i = subst (λ v. In (chord_levels f v) k) e (chord_there f (all_cells f) t k r.there).1 in
        let level = levels_known f h block q.tri in_rows in_cols k (chord_known f q.tri k i) i in
        subst (λ v. Both (cond forward (chord_ends f v k) (turned (chord_ends f v k)))) (sym e) (way_both (chord_ends f q.tri k) forward (chord_both k level))

  -- ---- no end of a step lies left of another

  part_beside : (l : Link) (k : ℕ) (forward : Bool) → IsOfOutline (Part l k) forward → (u : Sub) (way : Bool) → IsOfOutline u way → Beside (place (Part l k) forward) (place u way)
  part_beside l k forward r u way s =
      let w : Walk = record { link = l; forward = forward } in
      let leg = legs_beside f h q.tri in_rows in_cols w (leg_there (all_cells f) l.way l.row l.col forward q.tri (part_right l k forward r)) in
      let ends = step_both (point f (from w)) (point f (to w)) leg.1 u way s in
      (beside_part f h w leg.0 k (place u way).a ends.0, beside_part f h w leg.0 k (place u way).b ends.1)

  -- the chords of a piece have its band on their right
  module _ (k : ℕ) (level : IsLevel f h q.tri in_rows in_cols k) (s : Seg) (ends : EndsIn f h q.tri in_rows in_cols q.band s) where
    chord_way : (forward : Bool) → cond forward k (k - 1) ≡ q.band → Beside (cond forward (chord_ends f q.tri k) (turned (chord_ends f q.tri k))) s
    chord_way true e = (ends.0.deep k level (omega (arith, e)), ends.1.deep k level (omega (arith, e)))
    chord_way false e = let above = level.above in (ends.0.shoal k level (omega (arith, e, above)), ends.1.shoal k level (omega (arith, e, above)))

  chord_beside : (t : Tri) (k : ℕ) (forward : Bool) → IsOfOutline (Chord t k) forward → (u : Sub) (way : Bool) → IsOfOutline u way → Beside (place (Chord t k) forward) (place u way)
  chord_beside t k forward r u way s =
      let g = chord_tri t k forward r in
      let e : t ≡ q.tri = ap (λ p. p.tri) g in
      let i = subst (λ v. In (chord_levels f v) k) e (chord_there f (all_cells f) t k r.there).1 in
      let known = chord_known f q.tri k i in
      let level = levels_known f h block q.tri in_rows in_cols k known i in
      subst (λ v. Beside (cond forward (chord_ends f v k) (turned (chord_ends f v k))) (place u way)) (sym e)
      (chord_way k level (place u way) (step_in f h block u way q s.there s.right in_rows in_cols known) forward (ap (λ p. p.band) g))

  pub beside : (u : Sub) (forward : Bool) → IsOfOutline u forward → (v : Sub) (way : Bool) → IsOfOutline v way → Beside (place u forward) (place v way)
  beside (Part l k) forward r v way s = part_beside l k forward r v way s
  beside (Chord t k) forward r v way s = chord_beside t k forward r v way s

-- ---- the outline of a piece

module _ (same : SamePiece) (f : Field) (h : IsField f) (block : ℕ → ℕ → ℕ) (q : Piece) (there : Contains (whole_mesh f block).pieces q) where
  convex : (s z : Step) → In (boundary (whole_mesh f block) (same_piece q)) s → In (boundary (whole_mesh f block) (same_piece q)) z → Beside (walked (whole_mesh f block) s) (walked (whole_mesh f block) z)
  convex s z i j =
      let c = (piece_there f (all_cells f) q (is_in (whole_mesh f block).pieces q there)).0 in
      let a = on_outline same f block q s i in
      let b = on_outline same f block q z j in
      beside f h block q (cell_row f h block q.tri.row q.tri.col c) (cell_col f h block q.tri.row q.tri.col c)
      s.sub s.forward (record { there = a.0; right = a.1 }) z.sub z.forward (record { there = b.0; right = b.1 })

  in_piece : (p : Point) → ((s : Step) → Contains (boundary (whole_mesh f block) (same_piece q)) s → NotLeft (walked (whole_mesh f block) s).a (walked (whole_mesh f block) s).b p) → IsInPiece (whole_mesh f block) q p
  in_piece p each =
      let m = whole_mesh f block in
      let outer = boundary m (same_piece q) in
      All-weaker (Contains outer) (λ s. NotLeft (walked m s).a (walked m s).b p) each outer (All-contains_itself outer)

pub pieces_are_convex : SamePiece → PiecesAreConvex
pieces_are_convex same f block h q z there there_z =
    let m = whole_mesh f block in
    let outer = boundary m (same_piece q) in
    let j = is_in outer z there_z in (
      in_piece same f h block q there (walked m z).a (λ s c. (convex same f h block q there s z (is_in outer s c) j).0),
      in_piece same f h block q there (walked m z).b (λ s c. (convex same f h block q there s z (is_in outer s c) j).1),
    )

pub none_beyond_steps : BoundarySum Step Piece → WalksBothWays → SamePiece → PiecesInTriangles → NoneBeyondSteps
none_beyond_steps sum ways same inside f block h p q s there there_s left =
    let m = whole_mesh f block in
    let i = is_in (boundary m (same_piece q)) s there_s in
    counts_nothing sum ways same inside f h block p q there (walked m s).a (walked m s).b left (λ z j. convex same f h block q there s z i j)

pub pieces_count_inside : SamePiece → NoneBeyondSteps → PiecesCountInside
pieces_count_inside same beyond f block h p q there some =
    let m = whole_mesh f block in
    in_piece same f h block q there p (λ s c. by_lt_z (pos 0) (cross_of (walked m s).a (walked m s).b p) (λ left. absurd (some (beyond f block h p q s there c left))) (λ right. right))
