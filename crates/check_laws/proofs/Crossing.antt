-- Two rising steps of the mesh of a field with a common rational point between the heights of their ends are on one straight line.
use Rattle.std.proofs.Common.{◌≡◌, ◌⊎◌, ⊎_elim, inl, inr, ℕ, ℤ, pos, ◌-ℤ◌, ◌*ℤ◌, neg_ℤ, ◌≤ℤ◌, ◌<ℤ◌, Bool, true, false, None, get_or, Contains, refl, sym, ap, subst, ◌∙◌, arith}
use Rattle.std.proofs.lemmas.Int.{ints}
use Rattle.std.proofs.lemmas.List.Elements.{Contains-get_or}
use Rattle.chart_definitions.specs.SoundEdges.{OnOutline}
use Rattle.chart_definitions.specs.SoundEdges.OnOutline.{East, North, South, West}
use Rattle.mesh_counts_laws.specs.Counts.{IsSingle}
use Rattle.mesh_definitions.specs.Faces.{borders, steps_of}
use Rattle.mesh_definitions.specs.Field.{Field, InCoverage, IsField}
use Rattle.mesh_definitions.specs.Mesh.{all_cells}
use Rattle.mesh_definitions.specs.Pieces.{Mesh, same_piece, walked, whole_mesh}
use Rattle.mesh_definitions.specs.declared.Piece.{Piece}
use Rattle.mesh_definitions.specs.declared.Step.{Step}
use Rattle.mesh_ground_laws.specs.ClosedPieces.{PiecesAreConvex}
use Rattle.mesh_laws.specs.PieceLaws.{PiecesOnce}
use Rattle.mesh_lines_laws.specs.Chords.{ChordsNest}
use Rattle.mesh_lines_laws.specs.MeshLines.{FieldsKeepOutline}
use Rattle.mesh_lines_laws.proofs.ChordCorners.{starts, stops}
use Rattle.mesh_lines_laws.proofs.Segments.{NotLeft}
use Rattle.plane_geom.specs.Geom.{cross_of}
use Rattle.plane_geom.specs.declared.Point.{Point}
use Rattle.plane_geom.specs.declared.Seg.{Seg}
use Rattle.plane_laws.specs.Borders.{AreFromZero, HasPieces}
use Rattle.plane_laws.specs.SumLaws.{BoundarySum}
use Rattle.plane_laws.proofs.Algebra.{Mul, Neg, Sub, V, mul_nonneg, mul_nonpos, ring}
use Rattle.plane_laws.proofs.Lines.{side_back}
use Rattle.plane_laws.proofs.Members.{contains}
use Rattle.plane_strips.specs.Rational.{IsOnAt, RationalPoint, place, scaled}
use Rattle.plane_strips.specs.Strips.{OneLine}
use Rattle.tiling_laws.proofs.BothSides.{listed}
use Rattle.check_laws.specs.Counts.{NoneBelowAt, OutlineSingleAt, count_at}
use Rattle.check_laws.proofs.Aligned.{ahead_on, aligned}
use Rattle.check_laws.proofs.Along.{walked_along}
use Rattle.check_laws.proofs.Numbered.{SumLaws, not_both, piece_at, whole_outline}
use Rattle.check_laws.proofs.Outlined.{IsBorder, in_outline}
use Rattle.check_laws.proofs.Placed.{not_left_scaled}
use Rattle.check_laws.proofs.Steps.{IsStep}
use Rattle.check_laws.proofs.Within.{beside, counts_one, less_unscaled, on_unscaled_line}

-- all that is used of meshes and fields
pub record FieldLaws : Type 0 where
  pub sums : SumLaws
  pub boundary : BoundarySum Step Piece
  pub convex : PiecesAreConvex
  pub nest : ChordsNest
  pub once : PiecesOnce
  pub below : NoneBelowAt
  pub single : OutlineSingleAt
  pub keep : FieldsKeepOutline

-- a rational point on a rising segment, between the heights of its ends
pub record IsAmid (s : Seg) (q : RationalPoint) : Type 0 where
  pub low : (q.w *ℤ s.a.y) <ℤ q.y
  pub high : q.y <ℤ (q.w *ℤ s.b.y)
  pub on : IsOnAt s q

rises : (s : Seg) (q : RationalPoint) → IsAmid s q → s.a.y <ℤ s.b.y
rises s q h = let l = h.low in let k = h.high in less_unscaled q.w q.positive s.a.y s.b.y (omega (arith, ints, l, k))

-- ---- a line with both ends of a segment on one of its sides

-- no end of the second segment lies left of the first, or none right of it
abbrev OneSide : Seg → Seg → Type 0
OneSide s t = (NotLeft s.a s.b t.a × NotLeft s.a s.b t.b) ⊎ (NotLeft s.b s.a t.a × NotLeft s.b s.a t.b)

one_line : (s t : Seg) (q : RationalPoint) → IsAmid s q → IsAmid t q → OneSide s t → OneLine s t
one_line s t q hs ht side =
    let z = place q in
    let w = q.w in
    let w0 = q.positive in
    let scale = λ (a b c : Point) (n : NotLeft a b c). not_left_scaled w w0 a b c n in
    ⊎_elim
    (λ k.
    let e = aligned (scaled w s.a) (scaled w s.b) (scaled w t.a) (scaled w t.b) z ht.low ht.high ht.on.line hs.on.line (scale s.a s.b t.a k.0) (scale s.a s.b t.b k.1) in
    record { first = on_unscaled_line w w0 s.a s.b t.a e.0; second = on_unscaled_line w w0 s.a s.b t.b e.1 })
    (λ k.
    let back = side_back (scaled w s.a) (scaled w s.b) z in
    let line = hs.on.line in
    let e = aligned (scaled w s.b) (scaled w s.a) (scaled w t.a) (scaled w t.b) z ht.low ht.high ht.on.line (omega (arith, ints, back, line)) (scale s.b s.a t.a k.0) (scale s.b s.a t.b k.1) in
    let ea = on_unscaled_line w w0 s.b s.a t.a e.0 in
    let eb = on_unscaled_line w w0 s.b s.a t.b e.1 in
    let ba = side_back s.b s.a t.a in
    let bb = side_back s.b s.a t.b in
    record { first = omega (arith, ints, ea, ba); second = omega (arith, ints, eb, bb) })
    side

-- the first of two segments is on the line of the second where that is on the line of the first
exchanged : (s t : Seg) → t.a.y <ℤ t.b.y → OneLine t s → OneLine s t
exchanged s t r h =
    let a = starts t.a t.b in
    record {
      first = ahead_on t.a t.b s.a s.b t.a r h.first h.second a;
      second = ahead_on t.a t.b s.a s.b t.b r h.first h.second (stops t.a t.b);
    }

-- ---- the outline of the coverage

upright_side : (a b z : Point) → a.x ≡ b.x → cross_of a b z ≡ neg_ℤ ((b.y -ℤ a.y) *ℤ (z.x -ℤ a.x))
upright_side a b z e =
    ap (λ x. (x -ℤ a.x) *ℤ (z.y -ℤ a.y) -ℤ (b.y -ℤ a.y) *ℤ (z.x -ℤ a.x)) (sym e)
    ∙ ring (Sub (Mul (Sub (V a.x) (V a.x)) (Sub (V z.y) (V a.y))) (Mul (Sub (V b.y) (V a.y)) (Sub (V z.x) (V a.x)))) (Neg (Mul (Sub (V b.y) (V a.y)) (Sub (V z.x) (V a.x)))) (omega arith)

module _ (f : Field) where
  -- what lies in the coverage is on one side of each rising segment along its outline
  along_side : (s t : Seg) → OnOutline f s → s.a.y <ℤ s.b.y → InCoverage f t.a → InCoverage f t.b → OneSide s t
  along_side s t (West a b) r ca cb =
      let right = λ (z : Point) (l : s.a.x ≤ℤ z.x).
      let e = upright_side s.a s.b z (a ∙ sym b) in
      let n = mul_nonneg (s.b.y -ℤ s.a.y) (z.x -ℤ s.a.x) (omega (arith, ints, r)) (omega (arith, ints, l)) in
      let g : NotLeft s.a s.b z = omega (arith, ints, e, n) in g in
      let wa = ca.west in
      let wb = cb.west in
      inl (right t.a (omega (arith, ints, a, wa)), right t.b (omega (arith, ints, a, wb)))
  along_side s t (East a b) r ca cb =
      let left = λ (z : Point) (l : z.x ≤ℤ s.a.x).
      let e = upright_side s.a s.b z (a ∙ sym b) in
      let k = side_back s.a s.b z in
      let n = mul_nonpos (s.b.y -ℤ s.a.y) (z.x -ℤ s.a.x) (omega (arith, ints, r)) (omega (arith, ints, l)) in
      let g : NotLeft s.b s.a z = omega (arith, ints, e, k, n) in g in
      let ea = ca.east in
      let eb = cb.east in
      inr (left t.a (omega (arith, ints, a, ea)), left t.b (omega (arith, ints, a, eb)))
  along_side s t (North a b) r ca cb = absurd (omega (arith, ints, a, b, r))
  along_side s t (South a b) r ca cb = absurd (omega (arith, ints, a, b, r))

at_most : (z : ℤ) → IsSingle z → z ≤ℤ pos 1
at_most z h = ⊎_elim (λ e. omega (arith, ints, e)) (λ e. omega (arith, ints, e)) h

module _ (laws : FieldLaws) (f : Field) (h : IsField f) (block : ℕ → ℕ → ℕ) (q : RationalPoint) where
  abbrev m : Mesh
  m = whole_mesh f block

  have : HasPieces (borders m) m.pieces
  have = laws.once f (all_cells f) block

  known : (s : Step) (p : Piece) → IsBorder m s p → Contains m.pieces p
  known s p b = have.sides s p (contains (steps_of m) s (listed m s b.there)) b.right

  zero_up : AreFromZero (piece_at laws.sums m have q) m.pieces
  zero_up k d l = laws.below f block h q (get_or m.pieces k d) (Contains-get_or m.pieces k d l)

  -- two pieces that count at one point are the same
  one_piece : (p r : Piece) → Contains m.pieces p → Contains m.pieces r → pos 1 ≤ℤ count_at m q (same_piece p) → pos 1 ≤ℤ count_at m q (same_piece r) → p ≡ r
  one_piece p r i j a b = by (same_piece p r) refl
    where
      by : (x : Bool) → same_piece p r ≡ x → p ≡ r
      by true e = (laws.sums.same p r).0 e
      by false e =
          let each = piece_at laws.sums m have q in
          let x = laws.sums.member each (same_piece p) m.pieces p zero_up i ((laws.sums.same p p).1 refl) in
          let y = laws.sums.member each (same_piece r) m.pieces r zero_up j ((laws.sums.same r r).1 refl) in
          let z = laws.sums.apart each (same_piece p) (same_piece r) m.pieces zero_up (λ t. not_both (same_piece p t) (same_piece r t) (λ g k. differ (same_piece p r) e ((laws.sums.same p r).1 ((laws.sums.same p t).0 g ∙ sym ((laws.sums.same r t).0 k))))) in
          let s = at_most _ (laws.single f block h q) in
          let o = whole_outline laws.sums m have q in
          absurd (omega (arith, ints, x, y, z, s, o, a, b))
        where
          differ : (x : Bool) → x ≡ false → x ≡ true → ⊥
          differ true e g = absurd (cc (e))
          differ false e g = absurd (cc (g))

  module _ (s t : Seg) (x : IsStep m s) (y : IsStep m t) (amid_s : IsAmid s q) (amid_t : IsAmid t q) where
    counts : (s : Seg) (x : IsStep m s) → IsAmid s q → (p : Piece) → IsBorder m x.step p → pos 1 ≤ℤ count_at m q (same_piece p)
    counts s x amid p b =
        let k : IsAmid (walked m x.step) q = subst (λ z. IsAmid z q) (sym x.lies) amid in
        counts_one laws.boundary laws.sums.ways laws.sums.same laws.convex laws.nest f h block p (known x.step p b) q x.step (in_outline m laws.sums.same x.step p b) k.low k.high k.on

    meet_between_pieces : (p r : Piece) → IsBorder m x.step p → IsBorder m y.step r → OneLine s t
    meet_between_pieces p r a b =
        let same = one_piece p r (known x.step p a) (known y.step r b) (counts s x amid_s p a) (counts t y amid_t r b) in
        let c = subst (IsBorder m y.step) (sym same) b in
        let n = beside laws.boundary laws.sums.ways laws.sums.same laws.convex laws.nest f h block p (known x.step p a) x.step y.step (in_outline m laws.sums.same x.step p a) (in_outline m laws.sums.same y.step p c) in
        one_line s t q amid_s amid_t (sided s t x.lies y.lies n)
      where
        sided : (s t : Seg) → walked m x.step ≡ s → walked m y.step ≡ t → NotLeft (walked m x.step).a (walked m x.step).b (walked m y.step).a × NotLeft (walked m x.step).a (walked m x.step).b (walked m y.step).b → OneSide s t
        sided s t e g n = inl (subst (λ (z : Seg). NotLeft s.a s.b z.a × NotLeft s.a s.b z.b) g (subst (λ (z : Seg). NotLeft z.a z.b (walked m y.step).a × NotLeft z.a z.b (walked m y.step).b) e n))

    meet_on_outline : (s t : Seg) (x : IsStep m s) → IsAmid s q → IsAmid t q → m.right_of x.step ≡ None → InCoverage f t.a → InCoverage f t.b → OneLine s t
    meet_on_outline s t x amid_s amid_t none ca cb =
        let on = (laws.keep f block h x.step (contains m.subs x.step.sub x.there)).0 (inl none) in
        one_line s t q amid_s amid_t (along_side f s t (subst (OnOutline f) x.lies (walked_along f m x.step on)) (rises s q amid_s) ca cb)

    pub meet_on_line : InCoverage f s.a → InCoverage f s.b → InCoverage f t.a → InCoverage f t.b → OneLine s t
    meet_on_line sa sb ta tb = ⊎_elim
        (λ a. ⊎_elim
        (λ b. meet_between_pieces a.0 b.0 a.1 b.1)
        (λ none. exchanged s t (rises t q amid_t) (meet_on_outline t s y amid_t amid_s none sa sb))
        y.side)
        (λ none. meet_on_outline s t x amid_s amid_t none ta tb)
        x.side
