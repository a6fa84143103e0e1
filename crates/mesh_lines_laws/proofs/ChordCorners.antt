-- The corners of a triangle, clockwise, and how a chord parts one of them from the other two.
use Rattle.std.proofs.Common.{◌≡◌, ⊎_elim, inl, inr, ℕ, ◌+◌, ◌<◌, ◌≤◌, ℤ, pos, ◌+ℤ◌, ◌-ℤ◌, ◌*ℤ◌, neg_ℤ, ◌≤ℤ◌, ◌<ℤ◌, Bool, true, false, cond, not, ◌&&◌, [], ◌∷◌, All, refl, sym, ap, ap₂, subst, ◌∙◌, arith}
use Rattle.std.specs.Prelude.{nat_lt, nat_le}
use Rattle.std.proofs.lemmas.Bool.Decides.{nat_tests}
use Rattle.std.proofs.lemmas.Int.{ints, by_lt_z}
use Rattle.std.proofs.lemmas.List.Elements.{All-head, All-tail}
use Rattle.mesh_definitions.specs.Cuts.{crossing}
use Rattle.mesh_definitions.specs.Field.{Field, IsField, point, band_at}
use Rattle.mesh_definitions.specs.Ground.{IsInTri}
use Rattle.mesh_definitions.specs.Mesh.{corners}
use Rattle.mesh_definitions.specs.Pieces.{chord_ends, least_band, greatest_band}
use Rattle.mesh_definitions.specs.declared.Tri.{Tri}
use Rattle.depth_grid.specs.declared.node.NodeId.{NodeId}
use Rattle.mesh_laws.proofs.Depths.{band_few}
use Rattle.mesh_laws.proofs.Triangles.{tri}
use Rattle.mesh_laws.proofs.Turns.{lower_turns, node, upper_turns}
use Rattle.plane_geom.specs.Geom.{cross_of, IsOn}
use Rattle.plane_geom.specs.declared.Point.{Point}
use Rattle.plane_geom.specs.declared.Seg.{Seg}
use Rattle.plane_laws.specs.Outlines.{Vector, at, seg}
use Rattle.plane_laws.proofs.Algebra.{ring, V, mul_nonneg, mul_nonpos, mul_neg}
use Rattle.plane_laws.proofs.Chords.{at_poly, cross_poly}
use Rattle.plane_laws.proofs.Lines.{cross_of_poly, side_back, side_round, side_changes_evenly}
use Rattle.plane_laws.proofs.Members.{In}
use Rattle.tri_mesh.specs.Fields.{upwards}
use Rattle.tri_mesh.specs.Legs.{leg_of, entering_leg, leaving_leg}
use Rattle.tri_mesh.specs.Triangles.{AreBands}
use Rattle.tri_mesh.proofs.Bands.{are_bands}
use Rattle.tri_mesh.proofs.Steps.{InField, Cut, crossing_cut}
use Rattle.tri_mesh.proofs.Walking.{on_leg, chord_crosses}
use Rattle.mesh_lines_laws.proofs.Segments.{NotLeft, on_chord}

-- ---- points between the ends of a leg

-- the ends of a line lie on it
pub starts : (a b : Point) → cross_of a b a ≡ pos 0
starts a b = ring (cross_of_poly a b a) (V (pos 0)) (omega arith)

pub stops : (a b : Point) → cross_of a b b ≡ pos 0
stops a b = ring (cross_of_poly a b b) (V (pos 0)) (omega arith)

steps_on : (w : Point) (e : Vector) (n s : ℤ) → cross_of w (at w e n) (at w e s) ≡ pos 0
steps_on w e n s = ring (cross_poly (record { px = V w.x; py = V w.y }) (at_poly w e n) (at_poly w e s)) (V (pos 0)) (omega arith)

cut_on : (u v c : Point) → Cut u v c → cross_of u v c ≡ pos 0
cut_on u v c k = subst (λ z. cross_of u v z ≡ pos 0) (sym k.is) (subst (λ z. cross_of u z (at u k.step k.s) ≡ pos 0) k.end (steps_on u k.step k.n k.s))

cut_on_back : (u v c : Point) → Cut u v c → cross_of v u c ≡ pos 0
cut_on_back u v c k = side_back u v c ∙ ap neg_ℤ (cut_on u v c k)

-- a line that has one end of a leg strictly on its right and the other not on its left has what lies between strictly on its right
pub cut_right : (a b u v c : Point) → Cut u v c → NotLeft a b u → NotLeft a b v → (cross_of a b u +ℤ cross_of a b v) <ℤ pos 0 → cross_of a b c <ℤ pos 0
cut_right a b u v c k hu hv some =
    let e = side_changes_evenly a b u k.step k.s k.n in
    let same : cross_of a b (at u k.step k.n) ≡ cross_of a b v = ap (cross_of a b) k.end in
    let g = ap (λ z. k.s *ℤ z) same in
    let s0 = k.some in
    let sn = k.less in
    let x = mul_nonpos (k.n -ℤ k.s) (cross_of a b u) (omega (arith, ints, sn)) hu in
    let y = mul_nonpos k.s (cross_of a b v) (omega (arith, ints, s0)) hv in
    let whole : (k.n *ℤ cross_of a b (at u k.step k.s)) <ℤ pos 0 = by_lt_z (cross_of a b u) (pos 0)
    (λ l. omega (arith, ints, e, g, y, mul_neg (k.n -ℤ k.s) (cross_of a b u) (omega (arith, ints, sn)) l))
    (λ l. omega (arith, ints, e, g, x, mul_neg k.s (cross_of a b v) s0 (omega (arith, ints, some, l, hu)))) in
    subst (λ z. cross_of a b z <ℤ pos 0) (sym k.is)
    (by_lt_z (cross_of a b (at u k.step k.s)) (pos 0) (λ l. l)
    (λ l. absurd (omega (arith, ints, whole, mul_nonneg k.n (cross_of a b (at u k.step k.s)) (omega (arith, ints, s0, sn)) l))))

pub of_three : {P : Type 0} {p q r n : NodeId} → In (p ∷ q ∷ r ∷ []) n → (p ≡ n → P) → (q ≡ n → P) → (r ≡ n → P) → P
of_three i a b c = ⊎_elim a (λ j. ⊎_elim b (λ k. ⊎_elim c (λ none. absurd none) k) j) i

not_reached : (k b : ℕ) → nat_lt b k ≡ not (nat_le k b)
not_reached k b = grind (arith, nat_tests)

reached : (k b : ℕ) → nat_le k b ≡ true → k ≤ b
reached k b e = grind (arith, nat_tests)

less_where_not_le : (k b : ℕ) → nat_le k b ≡ false → b < k
less_where_not_le k b e = grind (arith, nat_tests)

module _ (f : Field) (h : IsField f) where
  -- the corners of a triangle, clockwise
  pub record AreCorners (t : Tri) (p q r : NodeId) : Type 0 where
    pub in_p : InField f h p
    pub in_q : InField f h q
    pub in_r : InField f h r
    pub turns : cross_of (point f p) (point f q) (point f r) <ℤ pos 0
    pub corner_p : In (corners t) p
    pub corner_q : In (corners t) q
    pub corner_r : In (corners t) r
    pub each : (n : NodeId) → In (corners t) n → In (p ∷ q ∷ r ∷ []) n
    pub first : (z : Point) → IsInTri f t z → NotLeft (point f p) (point f q) z
    pub second : (z : Point) → IsInTri f t z → NotLeft (point f q) (point f r) z
    pub third : (z : Point) → IsInTri f t z → NotLeft (point f r) (point f p) z

  on_again : (p q r n : NodeId) → In (p ∷ q ∷ r ∷ []) n → In (q ∷ r ∷ p ∷ []) n
  on_again p q r n i = of_three i (λ e. inr (inr (inl e))) (λ e. inl e) (λ e. inr (inl e))

  rotated : (t : Tri) (p q r : NodeId) → AreCorners t p q r → AreCorners t q r p
  rotated t p q r c = record {
    in_p = c.in_q;
    in_q = c.in_r;
    in_r = c.in_p;
    turns = subst (λ z. z <ℤ pos 0) (sym (side_round (point f p) (point f q) (point f r))) c.turns;
    corner_p = c.corner_q;
    corner_q = c.corner_r;
    corner_r = c.corner_p;
    each = λ n i. on_again p q r n (c.each n i);
    first = c.second;
    second = c.third;
    third = c.first;
  }

  module _ (k : ℕ) where
    abbrev pub up : NodeId → NodeId → Point
    up u v = crossing f (upwards u v) k

    -- a chord parts one corner from the other two: the first of three, clockwise
    pub data ChordOf (t : Tri) : Type 0 where
      OneDeep : (p q r : NodeId) → AreCorners t p q r → k ≤ band_at f p → band_at f q < k → band_at f r < k → chord_ends f t k ≡ seg (up q p) (up r p) → ChordOf t
      OneShoal : (p q r : NodeId) → AreCorners t p q r → band_at f p < k → k ≤ band_at f q → k ≤ band_at f r → chord_ends f t k ≡ seg (up p r) (up p q) → ChordOf t

    abbrev On : Seg → Point → Type 0
    On s z = cross_of s.a s.b z ≡ pos 0

    -- the level crosses the legs of the triangle on the chord's line
    pub meets : (t : Tri) → ChordOf t → (u v : NodeId) → In (corners t) u → In (corners t) v → band_at f u < k → k ≤ band_at f v → On (chord_ends f t k) (up u v)
    meets t (OneDeep p q r ring dp sq sr e) u v iu iv less most =
        subst (λ s. On s (up u v)) (sym e)
        (of_three (ring.each v iv)
        (λ pv. of_three (ring.each u iu)
        (λ pu. absurd (let g = ap (band_at f) pu in omega (arith, g, dp, less)))
        (λ qu. subst (λ n. On (seg (up q p) (up r p)) (up n v)) qu (subst (λ n. On (seg (up q p) (up r p)) (up q n)) pv (starts (up q p) (up r p))))
        (λ ru. subst (λ n. On (seg (up q p) (up r p)) (up n v)) ru (subst (λ n. On (seg (up q p) (up r p)) (up r n)) pv (stops (up q p) (up r p)))))
        (λ qv. absurd (let g = ap (band_at f) qv in omega (arith, g, sq, most)))
        (λ rv. absurd (let g = ap (band_at f) rv in omega (arith, g, sr, most))))
    meets t (OneShoal p q r ring sp dq dr e) u v iu iv less most =
        subst (λ s. On s (up u v)) (sym e)
        (of_three (ring.each u iu)
        (λ pu. of_three (ring.each v iv)
        (λ pv. absurd (let g = ap (band_at f) pv in omega (arith, g, sp, most)))
        (λ qv. subst (λ n. On (seg (up p r) (up p q)) (up n v)) pu (subst (λ n. On (seg (up p r) (up p q)) (up p n)) qv (stops (up p r) (up p q))))
        (λ rv. subst (λ n. On (seg (up p r) (up p q)) (up n v)) pu (subst (λ n. On (seg (up p r) (up p q)) (up p n)) rv (starts (up p r) (up p q)))))
        (λ qu. absurd (let g = ap (band_at f) qu in omega (arith, g, dq, less)))
        (λ ru. absurd (let g = ap (band_at f) ru in omega (arith, g, dr, less))))

    -- a line through a corner that has another corner on its right has what lies between the two there
    beside_first : (a b : Point) (u v : NodeId) (c : Point) → Cut (point f u) (point f v) c → cross_of a b (point f u) ≡ pos 0 → cross_of a b (point f v) <ℤ pos 0 → cross_of a b c <ℤ pos 0
    beside_first a b u v c k e l = cut_right a b (point f u) (point f v) c k (omega (arith, ints, e)) (omega (arith, ints, l)) (omega (arith, ints, e, l))

    beside_second : (a b : Point) (u v : NodeId) (c : Point) → Cut (point f u) (point f v) c → cross_of a b (point f u) <ℤ pos 0 → cross_of a b (point f v) ≡ pos 0 → cross_of a b c <ℤ pos 0
    beside_second a b u v c k l e = cut_right a b (point f u) (point f v) c k (omega (arith, ints, l)) (omega (arith, ints, e)) (omega (arith, ints, e, l))

    -- a point of a triangle that is on the line of a chord is on the chord
    pub on_line : (t : Tri) → ChordOf t → (z : Point) → IsInTri f t z → On (chord_ends f t k) z → IsOn (chord_ends f t k) z
    on_line t (OneDeep p q r ring dp sq sr e) z has line =
        let a = crossing_cut f h q p k ring.in_q ring.in_p sq dp in
        let b = crossing_cut f h r p k ring.in_r ring.in_p sr dp in
        let last = (rotated t q r p (rotated t p q r ring)).turns in
        subst (λ s. IsOn s z) (sym e)
        (on_chord (point f p) (point f q) (point f r) (point f p) (up q p) (up r p) z
        (cut_on_back (point f q) (point f p) (up q p) a)
        (beside_second (point f p) (point f q) r p (up r p) b ring.turns (starts (point f p) (point f q)))
        (ring.first z has)
        (cut_on (point f r) (point f p) (up r p) b)
        (beside_second (point f r) (point f p) q p (up q p) a last (stops (point f r) (point f p)))
        (ring.third z has)
        (subst (λ s. On s z) e line))
    on_line t (OneShoal p q r ring sp dq dr e) z has line =
        let a = crossing_cut f h p r k ring.in_p ring.in_r sp dr in
        let b = crossing_cut f h p q k ring.in_p ring.in_q sp dq in
        let last = (rotated t q r p (rotated t p q r ring)).turns in
        subst (λ s. IsOn s z) (sym e)
        (on_chord (point f r) (point f p) (point f p) (point f q) (up p r) (up p q) z
        (cut_on_back (point f p) (point f r) (up p r) a)
        (beside_first (point f r) (point f p) p q (up p q) b (stops (point f r) (point f p)) last)
        (ring.third z has)
        (cut_on (point f p) (point f q) (up p q) b)
        (beside_first (point f p) (point f q) p r (up p r) a (starts (point f p) (point f q)) ring.turns)
        (ring.first z has)
        (subst (λ s. On s z) e line))

    module _ (t : Tri) (p q r : NodeId) (same : p ∷ q ∷ r ∷ [] ≡ corners t) (ring : AreCorners t p q r) (above : least_band f t < k) (most : k ≤ greatest_band f t) where
      are : AreBands f t (record { first = band_at f p; second = band_at f q; third = band_at f r })
      are = are_bands f t (record { first = p; second = q; third = r }) (record { first = band_at f p; second = band_at f q; third = band_at f r }) same refl refl refl (band_few f p) (band_few f q) (band_few f r)

      abbrev leaving : Bool → Bool → Point
      leaving x y = cond x (up q p) (cond y (up r q) (up p r))

      abbrev entering : Bool → Bool → Point
      entering x y = cond x (up p q) (cond y (up q r) (up r p))

      left_by : (x y : Bool) → on_leg f k (cond x (leg_of q p (band_at f q)) (cond y (leg_of r q (band_at f r)) (leg_of p r (band_at f p)))) ≡ leaving x y
      left_by true y = refl
      left_by false true = refl
      left_by false false = refl

      entered_by : (x y : Bool) → on_leg f k (cond x (leg_of p q (band_at f p)) (cond y (leg_of q r (band_at f q)) (leg_of r p (band_at f r)))) ≡ entering x y
      entered_by true y = refl
      entered_by false true = refl
      entered_by false false = refl

      leaving_is : on_leg f k (leaving_leg (record { first = p; second = q; third = r }) (record { first = band_at f p; second = band_at f q; third = band_at f r }) k) ≡ leaving (nat_le k (band_at f p) && not (nat_le k (band_at f q))) (nat_le k (band_at f q) && not (nat_le k (band_at f r)))
      leaving_is = left_by (nat_le k (band_at f p) && nat_lt (band_at f q) k) (nat_le k (band_at f q) && nat_lt (band_at f r) k)
          ∙ ap₂ (λ y z. leaving (nat_le k (band_at f p) && y) (nat_le k (band_at f q) && z)) (not_reached k (band_at f q)) (not_reached k (band_at f r))

      entering_is : on_leg f k (entering_leg (record { first = p; second = q; third = r }) (record { first = band_at f p; second = band_at f q; third = band_at f r }) k) ≡ entering (not (nat_le k (band_at f p)) && nat_le k (band_at f q)) (not (nat_le k (band_at f q)) && nat_le k (band_at f r))
      entering_is = entered_by (nat_lt (band_at f p) k && nat_le k (band_at f q)) (nat_lt (band_at f q) k && nat_le k (band_at f r))
          ∙ ap₂ (λ x y. entering (x && nat_le k (band_at f q)) (y && nat_le k (band_at f r))) (not_reached k (band_at f p)) (not_reached k (band_at f q))

      second_ring : AreCorners t q r p
      second_ring = rotated t p q r ring

      third_ring : AreCorners t r p q
      third_ring = rotated t q r p second_ring

      cases : (x y z : Bool) → nat_le k (band_at f p) ≡ x → nat_le k (band_at f q) ≡ y → nat_le k (band_at f r) ≡ z → chord_ends f t k ≡ seg (leaving (x && not y) (y && not z)) (entering (not x && y) (not y && z)) → ChordOf t
      cases true true true e g i s = absurd (omega (arith, are.least, above, reached k (band_at f p) e, reached k (band_at f q) g, reached k (band_at f r) i))
      cases false false false e g i s = absurd (omega (arith, are.greatest, most, less_where_not_le k (band_at f p) e, less_where_not_le k (band_at f q) g, less_where_not_le k (band_at f r) i))
      cases true false false e g i s = OneDeep p q r ring (reached k (band_at f p) e) (less_where_not_le k (band_at f q) g) (less_where_not_le k (band_at f r) i) s
      cases false true false e g i s = OneDeep q r p second_ring (reached k (band_at f q) g) (less_where_not_le k (band_at f r) i) (less_where_not_le k (band_at f p) e) s
      cases false false true e g i s = OneDeep r p q third_ring (reached k (band_at f r) i) (less_where_not_le k (band_at f p) e) (less_where_not_le k (band_at f q) g) s
      cases false true true e g i s = OneShoal p q r ring (less_where_not_le k (band_at f p) e) (reached k (band_at f q) g) (reached k (band_at f r) i) s
      cases true false true e g i s = OneShoal q r p second_ring (less_where_not_le k (band_at f q) g) (reached k (band_at f r) i) (reached k (band_at f p) e) s
      cases true true false e g i s = OneShoal r p q third_ring (less_where_not_le k (band_at f r) i) (reached k (band_at f p) e) (reached k (band_at f q) g) s

      chord : ChordOf t
      chord =
          let x = chord_crosses f k t (record { first = p; second = q; third = r }) (record { first = band_at f p; second = band_at f q; third = band_at f r }) same are.each (omega (arith, are.least, above)) (omega (arith, are.greatest, most)) in
          cases (nat_le k (band_at f p)) (nat_le k (band_at f q)) (nat_le k (band_at f r)) refl refl refl
          (ap₂ seg (x.0 ∙ leaving_is) (x.1 ∙ entering_is))

  module _ (i j : ℕ) (in_rows : i + 1 < f.rows) (in_cols : j + 1 < f.cols) where
    at_node : (row col : ℕ) → row < f.rows → col < f.cols → InField f h (node row col)
    at_node row col a b = record { row = a; col = b }

    abbrev one : Bool → NodeId
    one u = cond u (node i j) (node (i + 1) j)

    abbrev two : NodeId
    two = node i (j + 1)

    abbrev three : Bool → NodeId
    three u = cond u (node (i + 1) j) (node (i + 1) (j + 1))

    same_corners : (u : Bool) → one u ∷ two ∷ three u ∷ [] ≡ corners (tri i j u)
    same_corners true = refl
    same_corners false = refl

    module _ (a b c d e g : Point) (z : Point) where
      abbrev Right : Seg → Type 0
      Right s = cross_of s.a s.b z ≤ℤ pos 0

      first_leg : All Right (seg a b ∷ seg c d ∷ seg e g ∷ []) → NotLeft a b z
      first_leg k = All-head Right (seg a b) (seg c d ∷ seg e g ∷ []) k

      second_leg : All Right (seg a b ∷ seg c d ∷ seg e g ∷ []) → NotLeft c d z
      second_leg k = All-head Right (seg c d) (seg e g ∷ []) (All-tail Right (seg a b) (seg c d ∷ seg e g ∷ []) k)

      third_leg : All Right (seg a b ∷ seg c d ∷ seg e g ∷ []) → NotLeft e g z
      third_leg k = All-head Right (seg e g) [] (All-tail Right (seg c d) (seg e g ∷ []) (All-tail Right (seg a b) (seg c d ∷ seg e g ∷ []) k))

    pub ring_of : (u : Bool) → AreCorners (tri i j u) (one u) two (three u)
    ring_of true = record {
      in_p = at_node i j (omega (arith, in_rows)) (omega (arith, in_cols));
      in_q = at_node i (j + 1) (omega (arith, in_rows)) in_cols;
      in_r = at_node (i + 1) j in_rows (omega (arith, in_cols));
      turns = upper_turns f h i j in_rows in_cols;
      corner_p = inl refl;
      corner_q = inr (inl refl);
      corner_r = inr (inr (inl refl));
      each = λ n i. i;
      first = λ z k. first_leg _ _ _ _ _ _ z k;
      second = λ z k. second_leg _ _ _ _ _ _ z k;
      third = λ z k. third_leg _ _ _ _ _ _ z k;
    }
    ring_of false = record {
      in_p = at_node (i + 1) j in_rows (omega (arith, in_cols));
      in_q = at_node i (j + 1) (omega (arith, in_rows)) in_cols;
      in_r = at_node (i + 1) (j + 1) in_rows in_cols;
      turns = lower_turns f h i j in_rows in_cols;
      corner_p = inl refl;
      corner_q = inr (inl refl);
      corner_r = inr (inr (inl refl));
      each = λ n i. i;
      first = λ z k. first_leg _ _ _ _ _ _ z k;
      second = λ z k. second_leg _ _ _ _ _ _ z k;
      third = λ z k. third_leg _ _ _ _ _ _ z k;
    }

    chord_in : (u : Bool) (k : ℕ) → least_band f (tri i j u) < k → k ≤ greatest_band f (tri i j u) → ChordOf k (tri i j u)
    chord_in u k above most = chord k (tri i j u) (one u) two (three u) (same_corners u) (ring_of u) above most

  -- the chord of each level that has one parts the corners so
  pub chord_of : (t : Tri) (k : ℕ) → t.row + 1 < f.rows → t.col + 1 < f.cols → least_band f t < k → k ≤ greatest_band f t → ChordOf k t
  chord_of t k a b above most = chord_in t.row t.col a b t.upper k above most

  -- the corners of a triangle of the field are nodes of it
  pub corner_in : (t : Tri) → t.row + 1 < f.rows → t.col + 1 < f.cols → (n : NodeId) → In (corners t) n → InField f h n
  corner_in t a b n i =
      let c = ring_of t.row t.col a b t.upper in
      of_three (c.each n i) (λ e. subst (InField f h) e c.in_p) (λ e. subst (InField f h) e c.in_q) (λ e. subst (InField f h) e c.in_r)
