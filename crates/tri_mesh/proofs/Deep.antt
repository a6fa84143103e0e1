-- Which corners of a triangle lie on the deep side of a chord.
use Rattle.std.proofs.Common.{◌≡◌, ℕ, zero, suc, ◌+◌, ◌<◌, ◌≤◌, pos, ◌-ℤ◌, ◌<ℤ◌, Bool, true, false, cond, not, ◌&&◌, get_or, refl, sym, ap, ap₂, subst, ◌∙◌, arith}
use Rattle.std.specs.Prelude.{nat_lt, nat_le, int_le}
use Rattle.std.specs.List.{Contains}
use Rattle.std.proofs.lemmas.Bool.Decides.{nat_tests}
use Rattle.std.proofs.lemmas.Int.{ints}
use Rattle.std.proofs.lemmas.List.Sums.{count_by-le-length}
use Rattle.mesh_definitions.specs.Field.{Field, IsField, point, band_at, depth_at}
use Rattle.mesh_definitions.specs.Mesh.{corners}
use Rattle.mesh_definitions.specs.Pieces.{chord_ends, least_band, greatest_band}
use Rattle.mesh_definitions.specs.declared.Tri.{Tri}
use Rattle.depth_grid.specs.declared.node.NodeId.{NodeId}
use Rattle.plane_geom.specs.Geom.{cross_of}
use Rattle.plane_geom.specs.declared.Point.{Point}
use Rattle.plane_laws.specs.LineLaws.{SideBack, SideRound}
use Rattle.plane_laws.specs.PieceLaws.{ChordSideOnFirstLeg, ChordSideOnSecondLeg, LegFromOtherEnd}
use Rattle.tri_mesh.specs.Legs.{leg_of, entering_leg, leaving_leg}
use Rattle.tri_mesh.specs.Sides.{IsParted}
use Rattle.tri_mesh.specs.Triangles.{each_corner, AreBands}
use Rattle.tri_mesh.specs.declared.chords.Leg.{Leg}
use Rattle.tri_mesh.specs.declared.corners.Corners.{Corners}
use Rattle.tri_mesh.proofs.Bands.{are_bands}
use Rattle.tri_mesh.proofs.Drawing.{tri}
use Rattle.tri_mesh.proofs.Parted.{parts, parts_back, pn, nn}
use Rattle.tri_mesh.proofs.Signs.{level, upright}
use Rattle.tri_mesh.proofs.Steps.{InField, crossing_cut, cut_back}
use Rattle.tri_mesh.proofs.Walking.{on_leg, chord_crosses}

not_reached : (k b : ℕ) → nat_lt b k ≡ not (nat_le k b)
not_reached k b = grind (arith, nat_tests)

reached : (k b : ℕ) → nat_le k b ≡ true → k ≤ b
reached k b e = grind (arith, nat_tests)

less_where_not_le : (k b : ℕ) → nat_le k b ≡ false → b < k
less_where_not_le k b e = grind (arith, nat_tests)

module _ (back : SideBack) (round : SideRound) (first_leg : ChordSideOnFirstLeg) (second_leg : ChordSideOnSecondLeg) (other_end : LegFromOtherEnd) (f : Field) (h : IsField f) (k : ℕ) where
  -- three nodes, clockwise
  record Clockwise (p q r : NodeId) : Type 0 where
    in_p : InField f h p
    in_q : InField f h q
    in_r : InField f h r
    turns : cross_of (point f p) (point f q) (point f r) <ℤ pos 0

  turned_once : (p q r : NodeId) → Clockwise p q r → Clockwise q r p
  turned_once p q r c = record { in_p = c.in_q; in_q = c.in_r; in_r = c.in_p; turns = subst (λ z. z <ℤ pos 0) (sym (round (point f p) (point f q) (point f r))) c.turns }

  abbrev up : NodeId → NodeId → Point
  up u v = on_leg f k (leg_of u v (band_at f u))

  abbrev Parted : Point → Point → NodeId → Type 0
  Parted a b n = IsParted f k a b n

  on_right : (a b : Point) (n : NodeId) → k ≤ band_at f n → cross_of a b (point f n) <ℤ pos 0 → Parted a b n
  on_right a b n deep s = (λ _. s, λ less. absurd (omega (arith, deep, less)))

  on_left : (a b : Point) (n : NodeId) → band_at f n < k → pos 0 <ℤ cross_of a b (point f n) → Parted a b n
  on_left a b n shoal s = (λ deep. absurd (omega (arith, deep, shoal)), λ _. s)

  -- one corner reaches the level
  one_deep : (p q r : NodeId) → Clockwise p q r → k ≤ band_at f p → band_at f q < k → band_at f r < k
      → Parted (up q p) (up r p) p × Parted (up q p) (up r p) q × Parted (up q p) (up r p) r
  one_deep p q r c deep shoal_q shoal_r =
      let a = cut_back (point f q) (point f p) (up q p) other_end (crossing_cut f h q p k c.in_q c.in_p shoal_q deep) in
      let b = cut_back (point f r) (point f p) (up r p) other_end (crossing_cut f h r p k c.in_r c.in_p shoal_r deep) in
      let e = round (point f p) (point f q) (point f r) in
      let s = parts first_leg second_leg (point f p) (point f q) (point f r) (up q p) (up r p) a b (omega (arith, ints, e, c.turns)) in
      (on_right (up q p) (up r p) p deep s.corner, on_left (up q p) (up r p) q shoal_q s.first, on_left (up q p) (up r p) r shoal_r s.second)

  -- one corner doesn't
  one_shoal : (p q r : NodeId) → Clockwise p q r → band_at f p < k → k ≤ band_at f q → k ≤ band_at f r
      → Parted (up p r) (up p q) p × Parted (up p r) (up p q) q × Parted (up p r) (up p q) r
  one_shoal p q r c shoal deep_q deep_r =
      let a = crossing_cut f h p r k c.in_p c.in_r shoal deep_r in
      let b = crossing_cut f h p q k c.in_p c.in_q shoal deep_q in
      let e = round (point f p) (point f q) (point f r) in
      let g = back (point f q) (point f r) (point f p) in
      let s = parts_back first_leg second_leg (point f p) (point f r) (point f q) (up p r) (up p q) a b (omega (arith, ints, e, g, c.turns)) in
      (on_left (up p r) (up p q) p shoal s.corner, on_right (up p r) (up p q) q deep_q s.second, on_right (up p r) (up p q) r deep_r s.first)

  module _ (t : Tri) (at : Corners NodeId) (same : each_corner at ≡ corners t) (c : Clockwise at.first at.second at.third) (above : least_band f t < k) (most : k ≤ greatest_band f t) where
    abbrev bands : Corners ℕ
    bands = record { first = band_at f at.first; second = band_at f at.second; third = band_at f at.third }

    are : AreBands f t bands
    are = let few = λ (n : NodeId). count_by-le-length (λ level. int_le level (depth_at f n)) f.levels in are_bands f t at bands same refl refl refl (few at.first) (few at.second) (few at.third)

    abbrev leaving : Bool → Bool → Bool → Leg
    leaving x y z = cond (x && not y) (leg_of at.second at.first bands.second) (cond (y && not z) (leg_of at.third at.second bands.third) (leg_of at.first at.third bands.first))

    abbrev entering : Bool → Bool → Bool → Leg
    entering x y z = cond (not x && y) (leg_of at.first at.second bands.first) (cond (not y && z) (leg_of at.second at.third bands.second) (leg_of at.third at.first bands.third))

    leaving_is : leaving_leg at bands k ≡ leaving (nat_le k bands.first) (nat_le k bands.second) (nat_le k bands.third)
    leaving_is = ap₂ (λ y z. cond (nat_le k bands.first && y) (leg_of at.second at.first bands.second) (cond (nat_le k bands.second && z) (leg_of at.third at.second bands.third) (leg_of at.first at.third bands.first))) (not_reached k bands.second) (not_reached k bands.third)

    entering_is : entering_leg at bands k ≡ entering (nat_le k bands.first) (nat_le k bands.second) (nat_le k bands.third)
    entering_is = ap₂ (λ x y. cond (x && nat_le k bands.second) (leg_of at.first at.second bands.first) (cond (y && nat_le k bands.third) (leg_of at.second at.third bands.second) (leg_of at.third at.first bands.third))) (not_reached k bands.first) (not_reached k bands.second)

    abbrev All : Leg → Leg → Type 0
    All a b = Parted (on_leg f k a) (on_leg f k b) at.first × Parted (on_leg f k a) (on_leg f k b) at.second × Parted (on_leg f k a) (on_leg f k b) at.third

    cases : (x y z : Bool) → nat_le k bands.first ≡ x → nat_le k bands.second ≡ y → nat_le k bands.third ≡ z → All (leaving x y z) (entering x y z)
    cases true true true e g i = absurd (omega (arith, are.least, above, reached k bands.first e, reached k bands.second g, reached k bands.third i))
    cases false false false e g i = absurd (omega (arith, are.greatest, most, less_where_not_le k bands.first e, less_where_not_le k bands.second g, less_where_not_le k bands.third i))
    cases true false false e g i = one_deep at.first at.second at.third c (reached k bands.first e) (less_where_not_le k bands.second g) (less_where_not_le k bands.third i)
    cases false true false e g i = let s = one_deep at.second at.third at.first (turned_once at.first at.second at.third c) (reached k bands.second g) (less_where_not_le k bands.third i) (less_where_not_le k bands.first e) in (s.2, s.0, s.1)
    cases false false true e g i = let s = one_deep at.third at.first at.second (turned_once at.second at.third at.first (turned_once at.first at.second at.third c)) (reached k bands.third i) (less_where_not_le k bands.first e) (less_where_not_le k bands.second g) in (s.1, s.2, s.0)
    cases false true true e g i = one_shoal at.first at.second at.third c (less_where_not_le k bands.first e) (reached k bands.second g) (reached k bands.third i)
    cases true false true e g i = let s = one_shoal at.second at.third at.first (turned_once at.first at.second at.third c) (less_where_not_le k bands.second g) (reached k bands.third i) (reached k bands.first e) in (s.2, s.0, s.1)
    cases true true false e g i = let s = one_shoal at.third at.first at.second (turned_once at.second at.third at.first (turned_once at.first at.second at.third c)) (less_where_not_le k bands.third i) (reached k bands.first e) (reached k bands.second g) in (s.1, s.2, s.0)

    abbrev Ends : Point → Point → Type 0
    Ends a b = Parted a b at.first × Parted a b at.second × Parted a b at.third

    three : Ends (chord_ends f t k).a (chord_ends f t k).b
    three =
        let x = chord_crosses f k t at bands same (are.each) (omega (arith, are.least, above)) (omega (arith, are.greatest, most)) in
        let s = cases (nat_le k bands.first) (nat_le k bands.second) (nat_le k bands.third) refl refl refl in
        let a = x.0 ∙ ap (on_leg f k) leaving_is in
        let b = x.1 ∙ ap (on_leg f k) entering_is in
        subst (λ p. Ends p (chord_ends f t k).b) (sym a) (subst (λ p. Ends (on_leg f k (leaving (nat_le k bands.first) (nat_le k bands.second) (nat_le k bands.third))) p) (sym b) s)

    corner : (n : NodeId) → Contains (each_corner at) n → Parted (chord_ends f t k).a (chord_ends f t k).b n
    corner n there = by there.0 there.1 there.2
      where
        by : (i : ℕ) → i < 3 → get_or (each_corner at) i n ≡ n → Parted (chord_ends f t k).a (chord_ends f t k).b n
        by zero lt e = subst (Parted (chord_ends f t k).a (chord_ends f t k).b) e three.0
        by (suc zero) lt e = subst (Parted (chord_ends f t k).a (chord_ends f t k).b) e three.1
        by (suc (suc zero)) lt e = subst (Parted (chord_ends f t k).a (chord_ends f t k).b) e three.2
        by (suc (suc (suc i))) lt e = absurd (omega (arith, lt))

  module _ (i j : ℕ) (in_rows : i + 1 < f.rows) (in_cols : j + 1 < f.cols) where
    abbrev node : ℕ → ℕ → NodeId
    node row col = record { row = row; col = col }

    abbrev spots : Bool → Corners NodeId
    spots u = cond u (record { first = node i j; second = node i (j + 1); third = node (i + 1) j }) (record { first = node (i + 1) j; second = node i (j + 1); third = node (i + 1) (j + 1) })

    at_node : (row col : ℕ) → row < f.rows → col < f.cols → InField f h (node row col)
    at_node row col a b = record { row = a; col = b }

    upper_turns : cross_of (point f (node i j)) (point f (node i (j + 1))) (point f (node (i + 1) j)) <ℤ pos 0
    upper_turns =
        let w = h.eastwards j (j + 1) (omega arith) in_cols in
        let v = h.southwards i (i + 1) (omega arith) in_rows in
        let e = level (point f (node i j)) (point f (node i (j + 1))) (point f (node (i + 1) j)) refl in
        let s = pn (f.x (j + 1) -ℤ f.x j) (f.y (i + 1) -ℤ f.y i) (omega (arith, ints, w)) (omega (arith, ints, v)) in
        omega (arith, ints, e, s)

    lower_turns : cross_of (point f (node (i + 1) j)) (point f (node i (j + 1))) (point f (node (i + 1) (j + 1))) <ℤ pos 0
    lower_turns =
        let w = h.eastwards j (j + 1) (omega arith) in_cols in
        let v = h.southwards i (i + 1) (omega arith) in_rows in
        let g = round (point f (node (i + 1) j)) (point f (node i (j + 1))) (point f (node (i + 1) (j + 1))) in
        let e = upright (point f (node i (j + 1))) (point f (node (i + 1) (j + 1))) (point f (node (i + 1) j)) refl in
        let s = nn (f.y (i + 1) -ℤ f.y i) (f.x j -ℤ f.x (j + 1)) (omega (arith, ints, v)) (omega (arith, ints, w)) in
        omega (arith, ints, g, e, s)

    clockwise : (u : Bool) → Clockwise (spots u).first (spots u).second (spots u).third
    clockwise true = record { in_p = at_node i j (omega (arith, in_rows)) (omega (arith, in_cols)); in_q = at_node i (j + 1) (omega (arith, in_rows)) in_cols; in_r = at_node (i + 1) j in_rows (omega (arith, in_cols)); turns = upper_turns }
    clockwise false = record { in_p = at_node (i + 1) j in_rows (omega (arith, in_cols)); in_q = at_node i (j + 1) (omega (arith, in_rows)) in_cols; in_r = at_node (i + 1) (j + 1) in_rows in_cols; turns = lower_turns }

    same_corners : (u : Bool) → each_corner (spots u) ≡ corners (tri i j u)
    same_corners true = refl
    same_corners false = refl

    pub parted : (u : Bool) (n : NodeId) → least_band f (tri i j u) < k → k ≤ greatest_band f (tri i j u) → Contains (corners (tri i j u)) n → Parted (chord_ends f (tri i j u) k).a (chord_ends f (tri i j u) k).b n
    parted u n above most there = corner (tri i j u) (spots u) (same_corners u) (clockwise u) above most n (subst (λ l. Contains l n) (sym (same_corners u)) there)
