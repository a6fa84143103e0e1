-- Parts of two legs of its triangle, one after the other, lie along each piece.
use Rattle.std.proofs.Common.{◌≡◌, ◌⊎◌, ⊎_elim, inl, inr, ℕ, ◌+◌, ◌-◌, ◌<◌, ◌≤◌, min, max, pos, ◌<ℤ◌, Bool, true, false, cond, Option, Some, None, [], ◌∷◌, length, map, fold, Contains, refl, sym, ap, subst, ◌∙◌, arith}
use Rattle.std.specs.Prelude.{is_some}
use Rattle.std.proofs.lemmas.Bool.{cases_lt}
use Rattle.mesh_definitions.proofs.Bands.{band_known}
use Rattle.mesh_definitions.specs.Field.{Field, IsField, point, band_at, node_band}
use Rattle.mesh_definitions.specs.Mesh.{Walk, all_cells, corners, first, from, has_cell, legs, links, right_tri, second, surveyed, to}
use Rattle.mesh_definitions.specs.Pieces.{greatest_band, least_band, part_bands, piece_at, span, whole_mesh}
use Rattle.mesh_definitions.specs.declared.Link.{Link}
use Rattle.mesh_definitions.specs.declared.Piece.{Piece}
use Rattle.mesh_definitions.specs.declared.Way.TheVariants.{Across, Down, Slant}
use Rattle.depth_grid.specs.declared.node.NodeId.{NodeId}
use Rattle.mesh_counts_laws.proofs.Rounds.{IsLeg, IsRound, rotated}
use Rattle.mesh_counts_laws.proofs.Triangles.{lower_round, upper_round}
use Rattle.mesh_laws.proofs.Depths.{band_few}
use Rattle.mesh_laws.proofs.Links.{field_across, field_down, field_slant}
use Rattle.mesh_laws.proofs.Listed.{bands_of, piece_there}
use Rattle.mesh_laws.proofs.Once.{all_pass}
use Rattle.mesh_laws.proofs.Places.{in_range, in_range_low, in_range_high}
use Rattle.mesh_laws.proofs.Triangles.{IsCell, cell_has, tri, walk}
use Rattle.mesh_laws.proofs.Turns.{lower_turns, upper_turns}
use Rattle.plane_geom.specs.Geom.{cross_of}
use Rattle.plane_geom.specs.declared.Point.{Point}
use Rattle.plane_geom.specs.declared.Seg.{Seg}
use Rattle.plane_laws.specs.Outlines.{seg, turning}
use Rattle.plane_laws.proofs.Algebra.{ring, V, Sub, Mul}
use Rattle.plane_laws.proofs.Lines.{cross_of_poly, side_round}
use Rattle.plane_laws.proofs.Members.{In, is_in}
use Rattle.exterior_laws.proofs.Runs.{run}
use Rattle.exterior_laws.proofs.Sides.{east_side, south_side, there}

-- ---- a band among those of three corners is one of two legs

-- between the bands of the ends of a leg
abbrev Spans : ℕ → ℕ → ℕ → Type 0
Spans b x y = (min x y ≤ b) × (b ≤ max x y)

-- or on one side of both
spans_or_not : (b x y : ℕ) → Spans b x y ⊎ ((b < min x y) ⊎ (max x y < b))
spans_or_not b x y = ⊎_elim (λ l. inr (inl l)) (λ l. ⊎_elim (λ m. inr (inr m)) (λ m. inl (l, m)) (cases_lt (max x y) b)) (cases_lt b (min x y))

two_of_three : (b x y z most : ℕ) → x ≤ most → min (min (min most x) y) z ≤ b → b ≤ max (max (max 0 x) y) z →
    (Spans b x y × Spans b y z) ⊎ ((Spans b y z × Spans b z x) ⊎ (Spans b z x × Spans b x y))
two_of_three b x y z most few low high = ⊎_elim
    (λ s. ⊎_elim
    (λ t. inl (s, t))
    (λ o. inr (inr (⊎_elim (λ l. ((omega (arith, s, l), omega (arith, s, l, low)), s)) (λ l. ((omega (arith, s, l, high), omega (arith, s, l)), s)) o)))
    (spans_or_not b y z))
    (λ o. inr (inl (⊎_elim
    (λ l. ((omega (arith, l, low, few), omega (arith, l)), (omega (arith, l, low, few), omega (arith, l))))
    (λ l. ((omega (arith, l), omega (arith, l, high)), (omega (arith, l), omega (arith, l, high)))) o)))
    (spans_or_not b x y)

-- ---- the bands of a leg's parts

module _ (f : Field) where
  bands_between : (l : Link) (b x y : ℕ) → node_band f (first l) ≡ Some x → node_band f (second l) ≡ Some y → Spans b x y → In (part_bands f l) b
  bands_between l b x y p q s =
      let e : part_bands f l ≡ span (min x y) (max x y) = rw (p, q) refl in
      subst (λ bands. In bands b) (sym e) (in_range (min x y) (max x y + 1 - min x y) b s.0 (omega (arith, s)))

  walk_bands : (forward : Bool) (l : Link) (b : ℕ) → is_some (f.depth (cond forward (first l) (second l))) ≡ true → is_some (f.depth (cond forward (second l) (first l))) ≡ true →
      Spans b (band_at f (cond forward (first l) (second l))) (band_at f (cond forward (second l) (first l))) → In (part_bands f l) b
  walk_bands true l b p q s = bands_between l b (band_at f (first l)) (band_at f (second l)) (band_known f (first l) p) (band_known f (second l) q) s
  walk_bands false l b p q s = bands_between l b (band_at f (first l)) (band_at f (second l)) (band_known f (first l) q) (band_known f (second l) p) (omega (arith, s), omega (arith, s))

  -- each link has a part
  some_part : (l : Link) → (b : ℕ) × In (part_bands f l) b
  some_part l = by (node_band f (first l)) (node_band f (second l)) refl refl
    where
      by : (x y : Option ℕ) → node_band f (first l) ≡ x → node_band f (second l) ≡ y → (b : ℕ) × In (part_bands f l) b
      by None y e k = (0, subst (λ bands. In bands 0) (let g : 0 ∷ [] ≡ part_bands f l = rw e refl in g) (inl refl))
      by (Some x) None e k = (0, subst (λ bands. In bands 0) (let g : 0 ∷ [] ≡ part_bands f l = rw (e, k) refl in g) (inl refl))
      by (Some x) (Some y) e k = (x, bands_between l x x y e k (omega arith, omega arith))

-- ---- legs along a piece

module _ (f : Field) (h : IsField f) (q : Piece) where
  -- a leg with the piece's triangle on its right
  pub record IsSide (w : Walk) : Type 0 where
    pub leg : IsLeg f h w
    pub listed : In (links (all_cells f)) w.link
    pub right : right_tri (all_cells f) w ≡ Some q.tri

  -- a part of it lies along the piece
  pub record HasPart (w : Walk) : Type 0 where
    pub beside : IsSide w
    pub band : ℕ
    pub there : In (part_bands f w.link) band
    pub is : piece_at f band q.tri ≡ q

  abbrev pub side : Walk → Seg
  side w = seg (point f (from w)) (point f (to w))

  -- so it is with two legs, and the walk turns right from the first to the second
  pub record HasTwoLegs : Type 0 where
    pub one : Walk
    pub two : Walk
    pub first : HasPart one
    pub second : HasPart two
    pub turns : turning (run (side one)) (run (side two)) <ℤ pos 0

  -- the corners of three walks run strictly clockwise
  abbrev Clockwise : Walk → Walk → Walk → Type 0
  Clockwise w1 w2 w3 = cross_of (point f (from w1)) (point f (from w2)) (point f (from w3)) <ℤ pos 0

  turned_on : (w1 w2 w3 : Walk) → Clockwise w1 w2 w3 → Clockwise w2 w3 w1
  turned_on w1 w2 w3 c = subst (λ z. z <ℤ pos 0) (sym (side_round (point f (from w1)) (point f (from w2)) (point f (from w3)))) c

  as_turn : (a b c : Point) → cross_of a b c ≡ turning (run (seg a b)) (run (seg b c))
  as_turn a b c = ring (cross_of_poly a b c) (Sub (Mul (Sub (V b.x) (V a.x)) (Sub (V c.y) (V b.y))) (Mul (Sub (V b.y) (V a.y)) (Sub (V c.x) (V b.x)))) (omega arith)

  two_legs : (w1 w2 w3 : Walk) → IsRound f h w1 w2 w3 → Clockwise w1 w2 w3 → HasPart w1 → HasPart w2 → HasTwoLegs
  two_legs w1 w2 w3 c clockwise p r =
      let a = point f (from w1) in
      let b = point f (from w2) in
      let d = point f (from w3) in
      let t : turning (run (seg a b)) (run (seg b d)) <ℤ pos 0 = subst (λ z. z <ℤ pos 0) (as_turn a b d) clockwise in
      record {
        one = w1;
        two = w2;
        first = p;
        second = r;
        turns = subst (λ n. turning (run (seg a (point f n))) (run (side w2)) <ℤ pos 0) (sym c.on) (subst (λ n. turning (run (seg a b)) (run (seg b (point f n))) <ℤ pos 0) (sym c.on_again) t);
      }

  part_of : (w : Walk) → IsSide w → (b : ℕ) → In (part_bands f w.link) b → piece_at f b q.tri ≡ q → HasPart w
  part_of w s b i e = record { beside = s; band = b; there = i; is = e }

  module _ (w1 w2 w3 : Walk) (three : legs q.tri ≡ w1 ∷ w2 ∷ w3 ∷ []) (c : IsRound f h w1 w2 w3) (clockwise : Clockwise w1 w2 w3) (s1 : IsSide w1) (s2 : IsSide w2) (s3 : IsSide w3) where
    module _ (known : surveyed f q.tri ≡ true) (i : In (span (least_band f q.tri) (greatest_band f q.tri)) q.band) where
      at_corners : corners q.tri ≡ from w1 ∷ from w2 ∷ from w3 ∷ []
      at_corners = ap (map from) three

      corner_known : (n : NodeId) → In (from w1 ∷ from w2 ∷ from w3 ∷ []) n → is_some (f.depth n) ≡ true
      corner_known n j = all_pass (λ n. is_some (f.depth n)) (corners q.tri) n known (subst (λ ns. In ns n) (sym at_corners) j)

      known_first : is_some (f.depth (from w1)) ≡ true
      known_first = corner_known (from w1) (inl refl)

      known_second : is_some (f.depth (from w2)) ≡ true
      known_second = corner_known (from w2) (inr (inl refl))

      known_third : is_some (f.depth (from w3)) ≡ true
      known_third = corner_known (from w3) (inr (inr (inl refl)))

      is_piece : piece_at f q.band q.tri ≡ q
      is_piece = ap (λ x. let p : Piece = record { tri = q.tri; band = cond x q.band 0 } in p) known

      spanned : (w v : Walk) → IsSide w → to w ≡ from v → is_some (f.depth (from w)) ≡ true → is_some (f.depth (from v)) ≡ true → Spans q.band (band_at f (from w)) (band_at f (from v)) → HasPart w
      spanned w v s on p r z = part_of w s q.band
          (walk_bands f w.forward w.link q.band p (subst (λ n. is_some (f.depth n) ≡ true) (sym on) r) (subst (λ n. Spans q.band (band_at f (from w)) (band_at f n)) (sym on) z))
          is_piece

      surveyed_legs : HasTwoLegs
      surveyed_legs =
          let x = band_at f (from w1) in
          let y = band_at f (from w2) in
          let z = band_at f (from w3) in
          let first = spanned w1 w2 s1 c.on known_first known_second in
          let second = spanned w2 w3 s2 c.on_again known_second known_third in
          let third = spanned w3 w1 s3 c.round known_third known_first in
          let least : least_band f q.tri ≡ min (min (min (length f.levels) x) y) z = ap (fold (λ b n. min b (band_at f n)) (length f.levels)) at_corners in
          let greatest : greatest_band f q.tri ≡ max (max (max 0 x) y) z = ap (fold (λ b n. max b (band_at f n)) 0) at_corners in
          let low = in_range_low (least_band f q.tri) (greatest_band f q.tri + 1 - least_band f q.tri) q.band i in
          let high = in_range_high (least_band f q.tri) (greatest_band f q.tri + 1 - least_band f q.tri) q.band i in
          let c2 = rotated f h w1 w2 w3 c in
          let c3 = rotated f h w2 w3 w1 c2 in
          let t2 = turned_on w1 w2 w3 clockwise in
          let t3 = turned_on w2 w3 w1 t2 in
          ⊎_elim
          (λ s. two_legs w1 w2 w3 c clockwise (first s.0) (second s.1))
          (λ o. ⊎_elim (λ s. two_legs w2 w3 w1 c2 t2 (second s.0) (third s.1)) (λ s. two_legs w3 w1 w2 c3 t3 (third s.0) (first s.1)) o)
          (two_of_three q.band x y z (length f.levels) (band_few f (from w1)) (omega (arith, low, least)) (omega (arith, low, high, greatest)))

    open_legs : surveyed f q.tri ≡ false → 0 ≡ q.band → HasTwoLegs
    open_legs bare none = two_legs w1 w2 w3 c clockwise (part w1 s1) (part w2 s2)
      where
        part : (w : Walk) → IsSide w → HasPart w
        part w s =
            let b = some_part f w.link in
            part_of w s b.0 b.1
            (ap (λ x. let p : Piece = record { tri = q.tri; band = cond x b.0 0 } in p) bare
            ∙ ap (λ n. let p : Piece = record { tri = q.tri; band = n } in p) none)

    legs_of : In (bands_of f q.tri) q.band → HasTwoLegs
    legs_of i = by (surveyed f q.tri) refl i
      where
        by : (x : Bool) → surveyed f q.tri ≡ x → In (cond x (span (least_band f q.tri) (greatest_band f q.tri)) (0 ∷ [])) q.band → HasTwoLegs
        by true known j = surveyed_legs known j
        by false bare j = open_legs bare (⊎_elim (λ e. e) (λ n. absurd n) j)

-- ---- the legs of a triangle of a field

module _ (f : Field) (h : IsField f) (i j b : ℕ) (c : IsCell (all_cells f) i j) where
  in_rows : i + 1 < f.rows
  in_rows = let s = c.south in omega (arith, s)

  in_cols : j + 1 < f.cols
  in_cols = let e = c.east in omega (arith, e)

  has : has_cell (all_cells f) i j ≡ true
  has = cell_has (all_cells f) i j c

  upper_legs : (u : Bool) → u ≡ true → (let q : Piece = record { tri = tri i j u; band = b } in In (bands_of f q.tri) q.band → HasTwoLegs f h q)
  upper_legs false e = absurd (cc (e))
  upper_legs true e =
      let q : Piece = record { tri = tri i j true; band = b } in
      let round = upper_round f h i j in_rows in_cols in
      let t = there (all_cells f) i j true has in
      let rows = in_rows in
      let cols = in_cols in
      legs_of f h q (walk Across i j true) (walk Slant i j false) (walk Down i j false) refl round (upper_turns f h i j in_rows in_cols)
      (record { leg = round.leg_first; listed = field_across f i j (omega (arith, rows)) (omega (arith, cols)); right = t })
      (record { leg = round.leg_second; listed = field_slant f i j (omega (arith, rows)) (omega (arith, cols)); right = t })
      (record { leg = round.leg_third; listed = field_down f i j (omega (arith, rows)) (omega (arith, cols)); right = t })

  lower_legs : (u : Bool) → u ≡ false → (let q : Piece = record { tri = tri i j u; band = b } in In (bands_of f q.tri) q.band → HasTwoLegs f h q)
  lower_legs true e = absurd (cc (e))
  lower_legs false e =
      let q : Piece = record { tri = tri i j false; band = b } in
      let round = lower_round f h i j in_rows in_cols in
      let t = there (all_cells f) i j false has in
      let rows = in_rows in
      let cols = in_cols in
      legs_of f h q (walk Slant i j true) (walk Down i (j + 1) true) (walk Across (i + 1) j false) refl round (lower_turns f h i j in_rows in_cols)
      (record { leg = round.leg_first; listed = field_slant f i j (omega (arith, rows)) (omega (arith, cols)); right = t })
      (record { leg = round.leg_second; listed = field_down f i (j + 1) (omega (arith, rows)) (omega (arith, cols)); right = east_side (all_cells f) (j + 1) i j refl ∙ t })
      (record { leg = round.leg_third; listed = field_across f (i + 1) j (omega (arith, rows)) (omega (arith, cols)); right = south_side (all_cells f) (i + 1) i j refl ∙ t })

-- each piece has parts of two legs along it
pub piece_legs : (f : Field) (h : IsField f) (block : ℕ → ℕ → ℕ) (q : Piece) → Contains (whole_mesh f block).pieces q → HasTwoLegs f h q
piece_legs f h block q inside =
    let k = piece_there f (all_cells f) q (is_in (whole_mesh f block).pieces q inside) in
    by q.tri.upper refl k.0 k.1
  where
    by : (u : Bool) → q.tri.upper ≡ u → IsCell (all_cells f) q.tri.row q.tri.col → In (bands_of f q.tri) q.band → HasTwoLegs f h q
    by true e c i = upper_legs f h q.tri.row q.tri.col q.band c q.tri.upper e i
    by false e c i = lower_legs f h q.tri.row q.tri.col q.band c q.tri.upper e i
