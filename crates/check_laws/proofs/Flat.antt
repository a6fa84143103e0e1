-- No outline of a piece has two steps on one straight line of which one rises and the other falls.
use Rattle.std.proofs.Common.{◌≡◌, ⊎_elim, inl, inr, ℕ, ◌+◌, ◌-◌, ◌<◌, ◌≤◌, pos, ◌<ℤ◌, Bool, true, false, cond, Some, [], refl, sym, ap, subst, ◌∙◌, arith}
use Rattle.std.proofs.lemmas.Int.{ints}
use Rattle.mesh_definitions.specs.Field.{Field, IsField, band_at, point}
use Rattle.mesh_definitions.specs.Mesh.{Walk, all_cells, corners, from, legs, right_tri, surveyed, to, tris}
use Rattle.mesh_definitions.specs.Pieces.{chord_ends, chord_levels, greatest_band, least_band, piece_at, span, walked, whole_mesh}
use Rattle.mesh_definitions.specs.declared.Link.{Link}
use Rattle.mesh_definitions.specs.declared.Piece.{Piece}
use Rattle.mesh_definitions.specs.declared.Sub.TheVariants.{Part, Chord}
use Rattle.mesh_definitions.specs.declared.Sub.{Sub}
use Rattle.mesh_definitions.specs.declared.Tri.{Tri}
use Rattle.depth_grid.specs.declared.node.NodeId.{NodeId}
use Rattle.mesh_ground_laws.proofs.Legs.{beside_part, leg_there, legs_beside, part_not_left}
use Rattle.mesh_laws.proofs.Listed.{piece, tri_in}
use Rattle.mesh_laws.proofs.Once.{chord_there, mapped}
use Rattle.mesh_laws.proofs.Places.{in_range_high, in_range_low}
use Rattle.mesh_laws.proofs.Triangles.{tri}
use Rattle.mesh_laws.proofs.Turns.{lower_turns, node, upper_turns}
use Rattle.mesh_lines_laws.specs.Chords.{ChordsNest}
use Rattle.mesh_lines_laws.proofs.ChordCorners.{ChordOf, chord_of, starts, stops}
use Rattle.mesh_lines_laws.proofs.ChordCorners.ChordOf.{OneDeep, OneShoal}
use Rattle.mesh_lines_laws.proofs.Segments.{NotLeft}
use Rattle.plane_geom.specs.Geom.{cross_of}
use Rattle.plane_geom.specs.Segments.{turned}
use Rattle.plane_geom.specs.declared.Point.{Point}
use Rattle.plane_geom.specs.declared.Seg.{Seg}
use Rattle.plane_laws.proofs.Chords.{side_on_first_leg, side_on_second_leg}
use Rattle.plane_laws.proofs.Lines.{side_back, side_round}
use Rattle.plane_laws.proofs.Members.{In, contains}
use Rattle.plane_laws.proofs.Pieces.{leg_from_other_end}
use Rattle.plane_strips.proofs.Means.{on_last}
use Rattle.tri_mesh.specs.Sides.{IsParted}
use Rattle.tri_mesh.proofs.Deep.{parted}
use Rattle.check_laws.proofs.Aligned.{back_on, on_both, part_strict}

-- a chord of a triangle has a level above the least band, up to the greatest, and the triangle is surveyed
chord_level : (f : Field) (t : Tri) (k : ℕ) → In (chord_levels f t) k → (least_band f t < k) × (k ≤ greatest_band f t)
chord_level f t k i = by (surveyed f t) i
  where
    by : (x : Bool) → In (cond x (span (least_band f t + 1) (greatest_band f t)) []) k → (least_band f t < k) × (k ≤ greatest_band f t)
    by true j =
        let low = in_range_low (least_band f t + 1) (greatest_band f t + 1 - (least_band f t + 1)) k j in
        let high = in_range_high (least_band f t + 1) (greatest_band f t + 1 - (least_band f t + 1)) k j in
        (omega (arith, low), omega (arith, low, high))
    by false j = absurd j

module _ (nest : ChordsNest) (f : Field) (h : IsField f) (block : ℕ → ℕ → ℕ) (q : Piece) (in_rows : q.tri.row + 1 < f.rows) (in_cols : q.tri.col + 1 < f.cols) where
  -- a step with the piece on its right
  pub record IsBeside (u : Sub) (forward : Bool) : Type 0 where
    pub there : In (whole_mesh f block).subs u
    pub right : (whole_mesh f block).right_of (record { sub = u; forward = forward }) ≡ Some q

  abbrev lies : Sub → Bool → Seg
  lies u forward = walked (whole_mesh f block) (record { sub = u; forward = forward })

  -- a corner of the piece's triangle strictly on the right of a segment
  abbrev HasRight : Seg → Type 0
  HasRight s = (n : NodeId) × In (corners q.tri) n × (cross_of s.a s.b (point f n) <ℤ pos 0)

  -- ---- parts of legs

  abbrev Third : Tri → Walk → Type 0
  Third t w = (n : NodeId) × In (corners t) n × (cross_of (point f (from w)) (point f (to w)) (point f n) <ℤ pos 0)

  turns_again : (a b c : Point) → cross_of a b c <ℤ pos 0 → cross_of b c a <ℤ pos 0
  turns_again a b c l = let e = side_round a b c in omega (arith, ints, e, l)

  third_of : (i j : ℕ) → i + 1 < f.rows → j + 1 < f.cols → (u : Bool) (w : Walk) → In (legs (tri i j u)) w → Third (tri i j u) w
  third_of i j a b true w there =
      let P = Third (tri i j true) in
      let x = upper_turns f h i j a b in
      let y = turns_again (point f (node i j)) (point f (node i (j + 1))) (point f (node (i + 1) j)) x in
      let z = turns_again (point f (node i (j + 1))) (point f (node (i + 1) j)) (point f (node i j)) y in
      ⊎_elim (λ e. subst P e (node (i + 1) j, inr (inr (inl refl)), x))
      (λ k. ⊎_elim (λ e. subst P e (node i j, inl refl, y))
      (λ k. ⊎_elim (λ e. subst P e (node i (j + 1), inr (inl refl), z)) (λ none. absurd none) k) k) there
  third_of i j a b false w there =
      let P = Third (tri i j false) in
      let x = lower_turns f h i j a b in
      let y = turns_again (point f (node (i + 1) j)) (point f (node i (j + 1))) (point f (node (i + 1) (j + 1))) x in
      let z = turns_again (point f (node i (j + 1))) (point f (node (i + 1) (j + 1))) (point f (node (i + 1) j)) y in
      ⊎_elim (λ e. subst P e (node (i + 1) (j + 1), inr (inr (inl refl)), x))
      (λ k. ⊎_elim (λ e. subst P e (node (i + 1) j, inl refl, y))
      (λ k. ⊎_elim (λ e. subst P e (node i (j + 1), inr (inl refl), z)) (λ none. absurd none) k) k) there

  module _ (l : Link) (k : ℕ) (forward : Bool) (r : IsBeside (Part l k) forward) where
    abbrev w : Walk
    w = record { link = l; forward = forward }

    is_leg : In (legs q.tri) w
    is_leg =
        let x = mapped (piece_at f k) (right_tri (all_cells f) w) q r.right in
        leg_there (all_cells f) l.way l.row l.col forward q.tri (x.1 ∙ ap (λ p. Some p.tri) x.2)

    -- no corner lies left of a part of a leg
    corner_beside : (n : NodeId) → In (corners q.tri) n → NotLeft (lies (Part l k) forward).a (lies (Part l k) forward).b (point f n)
    corner_beside n i =
        let leg = legs_beside f h q.tri in_rows in_cols w is_leg in
        beside_part f h w leg.0 k (point f n) (leg.1 n i)

    -- and one lies strictly right of a part that rises
    part_right : (lies (Part l k) forward).a.y <ℤ (lies (Part l k) forward).b.y → HasRight (lies (Part l k) forward)
    part_right rises =
        let leg = legs_beside f h q.tri in_rows in_cols w is_leg in
        let u = point f (from w) in
        let v = point f (to w) in
        let third = third_of q.tri.row q.tri.col in_rows in_cols q.tri.upper w is_leg in
        let s = lies (Part l k) forward in
        let a0 = starts u v in
        let b0 = stops u v in
        let a1 = starts v u in
        let b1 = stops v u in
        let on = part_not_left f h w leg.0 k u v (omega (arith, ints, a0)) (omega (arith, ints, b0)) in
        let back = part_not_left f h w leg.0 k v u (omega (arith, ints, b1)) (omega (arith, ints, a1)) in
        let ea = side_back u v s.a in
        let eb = side_back u v s.b in (
          third.0,
          third.1,
          part_strict u v s.a s.b (point f third.0) rises (omega (arith, ints, on, back, ea)) (omega (arith, ints, on, back, eb)) third.2 (corner_beside third.0 third.1),
        )

  -- ---- chords

  chord_tri : (t : Tri) (k : ℕ) (forward : Bool) → IsBeside (Chord t k) forward → piece t (cond forward k (k - 1)) ≡ q
  chord_tri t k forward r = let e = r.right in cc (e)

  -- a chord's triangle is the piece's
  chord_in : (t : Tri) (k : ℕ) (forward : Bool) → IsBeside (Chord t k) forward → (t ≡ q.tri) × (cond forward k (k - 1) ≡ q.band) × In (chord_levels f q.tri) k × In (tris (all_cells f)) q.tri
  chord_in t k forward r =
      let g = chord_tri t k forward r in
      let e : t ≡ q.tri = ap (λ p. p.tri) g in
      let c = chord_there f (all_cells f) t k r.there in
      (e, ap (λ p. p.band) g, subst (λ v. In (chord_levels f v) k) e c.1, subst (λ v. In (tris (all_cells f)) v) e (tri_in (all_cells f) t c.0))

  module _ (k : ℕ) (i : In (chord_levels f q.tri) k) where
    abbrev chord : Seg
    chord = chord_ends f q.tri k

    sides : (n : NodeId) → In (corners q.tri) n → IsParted f k chord.a chord.b n
    sides n c = let level = chord_level f q.tri k i in parted side_back side_round side_on_first_leg side_on_second_leg leg_from_other_end f h k q.tri.row q.tri.col in_rows in_cols q.tri.upper n level.0 level.1 (contains (corners q.tri) n c)

    -- a corner lies strictly right of a chord, whichever way it is walked
    chord_right : (forward : Bool) → HasRight (cond forward chord (turned chord))
    chord_right forward = let level = chord_level f q.tri k i in by (chord_of f h q.tri k in_rows in_cols level.0 level.1) forward
      where
        deep : (n : NodeId) → In (corners q.tri) n → k ≤ band_at f n → HasRight chord
        deep n c l = (n, c, (sides n c).0 l)

        shoal : (n : NodeId) → In (corners q.tri) n → band_at f n < k → HasRight (turned chord)
        shoal n c l = (n, c, let x = (sides n c).1 l in let e = side_back chord.a chord.b (point f n) in omega (arith, ints, x, e))

        by : ChordOf f h k q.tri → (forward : Bool) → HasRight (cond forward chord (turned chord))
        by (OneDeep a b c ring da sb sc e) true = deep a ring.corner_p da
        by (OneDeep a b c ring da sb sc e) false = shoal b ring.corner_q sb
        by (OneShoal a b c ring sa db dc e) true = deep b ring.corner_q db
        by (OneShoal a b c ring sa db dc e) false = shoal a ring.corner_p sa

  -- ---- two steps

  abbrev Rises : Seg → Type 0
  Rises s = s.a.y <ℤ s.b.y

  abbrev Falls : Seg → Type 0
  Falls s = s.b.y <ℤ s.a.y

  abbrev OnLine : Seg → Seg → Type 0
  OnLine d s = (cross_of d.a d.b s.a ≡ pos 0) × (cross_of d.a d.b s.b ≡ pos 0)

  -- two chords of one piece
  two_chords : (k j : ℕ) (x y : Bool) → In (chord_levels f q.tri) k → In (chord_levels f q.tri) j → In (tris (all_cells f)) q.tri → cond x k (k - 1) ≡ q.band → cond y j (j - 1) ≡ q.band →
      (let s : Seg = cond x (chord_ends f q.tri k) (turned (chord_ends f q.tri k)) in let d : Seg = cond y (chord_ends f q.tri j) (turned (chord_ends f q.tri j)) in Rises s → Falls d → OnLine d s → ⊥)
  two_chords k j true true i l there e g rises falls on =
      let same : k ≡ j = e ∙ sym g in
      let d = subst (λ n. Falls (chord_ends f q.tri n)) (sym same) falls in
      omega (arith, ints, rises, d)
  two_chords k j false false i l there e g rises falls on =
      let a = (chord_level f q.tri k i).0 in
      let b = (chord_level f q.tri j l).0 in
      let same : k ≡ j = omega (arith, e, g, a, b) in
      let d = subst (λ n. Falls (turned (chord_ends f q.tri n))) (sym same) falls in
      omega (arith, ints, rises, d)
  two_chords k j true false i l there e g rises falls on =
      let b = (chord_level f q.tri j l).0 in
      let s = chord_ends f q.tri k in
      let d = chord_ends f q.tri j in
      let strict = nest f q.tri k j d.b h (contains (tris (all_cells f)) q.tri there) (contains (chord_levels f q.tri) k i) (contains (chord_levels f q.tri) j l) (omega (arith, e, g, b)) (on_last d) in
      let flat = back_on d.b d.a s.a s.b d.b falls on.0 on.1 (starts d.b d.a) in
      omega (arith, ints, strict, flat)
  two_chords k j false true i l there e g rises falls on =
      let a = (chord_level f q.tri k i).0 in
      let s = chord_ends f q.tri k in
      let d = chord_ends f q.tri j in
      let strict = nest f q.tri j k s.b h (contains (tris (all_cells f)) q.tri there) (contains (chord_levels f q.tri) j l) (contains (chord_levels f q.tri) k i) (omega (arith, e, g, a)) (on_last s) in
      let flat = on.0 in
      omega (arith, ints, strict, flat)

  -- a corner that is left of neither and strictly right of one
  strict_first : (s d : Seg) (z : Point) → Rises s → Falls d → OnLine d s → NotLeft d.a d.b z → cross_of s.a s.b z <ℤ pos 0 → ⊥
  strict_first s d z rises falls on n l = let k = (on_both d.a d.b s.a s.b z falls rises on.0 on.1 n (omega (arith, ints, l))).1 in omega (arith, ints, k, l)

  strict_second : (s d : Seg) (z : Point) → Rises s → Falls d → OnLine d s → NotLeft s.a s.b z → cross_of d.a d.b z <ℤ pos 0 → ⊥
  strict_second s d z rises falls on n l = let k = (on_both d.a d.b s.a s.b z falls rises on.0 on.1 (omega (arith, ints, l)) n).0 in omega (arith, ints, k, l)

  chord_lies : (t : Tri) (k : ℕ) (forward : Bool) → t ≡ q.tri → lies (Chord t k) forward ≡ cond forward (chord_ends f q.tri k) (turned (chord_ends f q.tri k))
  chord_lies t k forward e = ap (λ v. cond forward (chord_ends f v k) (turned (chord_ends f v k))) e

  pub not_flat : (u : Sub) (x : Bool) → IsBeside u x → (v : Sub) (y : Bool) → IsBeside v y → Rises (lies u x) → Falls (lies v y) → OnLine (lies v y) (lies u x) → ⊥
  not_flat (Part l k) x r (Part p j) y o rises falls on =
      let n = part_right l k x r rises in
      strict_first (lies (Part l k) x) (lies (Part p j) y) (point f n.0) rises falls on (corner_beside p j y o n.0 n.1) n.2
  not_flat (Part l k) x r (Chord t j) y o rises falls on =
      let c = chord_in t j y o in
      let n = subst HasRight (sym (chord_lies t j y c.0)) (chord_right j c.2 y) in
      strict_second (lies (Part l k) x) (lies (Chord t j) y) (point f n.0) rises falls on (corner_beside l k x r n.0 n.1) n.2
  not_flat (Chord t k) x r (Part p j) y o rises falls on =
      let c = chord_in t k x r in
      let n = subst HasRight (sym (chord_lies t k x c.0)) (chord_right k c.2 x) in
      strict_first (lies (Chord t k) x) (lies (Part p j) y) (point f n.0) rises falls on (corner_beside p j y o n.0 n.1) n.2
  not_flat (Chord t k) x r (Chord v j) y o rises falls on =
      let c = chord_in t k x r in
      let d = chord_in v j y o in
      let es = chord_lies t k x c.0 in
      let ed = chord_lies v j y d.0 in
      two_chords k j x y c.2 d.2 c.3 c.1 d.1 (subst Rises es rises) (subst Falls ed falls) (subst (λ z. OnLine z (cond x (chord_ends f q.tri k) (turned (chord_ends f q.tri k)))) ed (subst (OnLine (lies (Chord v j) y)) es on))
