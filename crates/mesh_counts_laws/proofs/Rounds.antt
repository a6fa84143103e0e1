-- The outline of a piece, by three walks round its triangle.
use Rattle.std.proofs.Common.{◌≡◌, ℕ, ◌+◌, ◌<◌, ◌≤◌, ℤ, pos, ◌+ℤ◌, ◌-ℤ◌, neg_ℤ, ◌≤ℤ◌, Bool, true, false, cond, not, ◌&&◌, ◌||◌, refl, sym, ap, ap₂, subst, ◌∙◌, arith}
use Rattle.std.specs.Prelude.{nat_le}
use Rattle.std.proofs.lemmas.Bool.Decides.{nat_tests}
use Rattle.std.proofs.lemmas.Int.{ints}
use Rattle.mesh_definitions.specs.Cuts.{Slope, slope, crossing}
use Rattle.mesh_definitions.specs.Field.{Field, IsField, point, band_at}
use Rattle.mesh_definitions.specs.Mesh.{Walk, from, to, first, second}
use Rattle.depth_grid.specs.declared.node.NodeId.{NodeId}
use Rattle.mesh_laws.proofs.Chords.{pick, nowhere, reaches}
use Rattle.mesh_laws.proofs.Depths.{deepens, leads_on, leads_back}
use Rattle.mesh_laws.proofs.Legs.{crossed, above_both, below_both}
use Rattle.mesh_laws.proofs.Shares.{IsReversed}
use Rattle.plane_geom.specs.Geom.{cross_of}
use Rattle.plane_geom.specs.declared.Point.{Point}
use Rattle.plane_geom.specs.declared.Seg.{Seg}
use Rattle.plane_laws.specs.Outlines.{seg}
use Rattle.plane_laws.proofs.Lines.{side_round}
use Rattle.tri_mesh.specs.Fields.{upwards}
use Rattle.tri_mesh.proofs.Steps.{InField}
use Rattle.mesh_counts_laws.proofs.Parts.{level_part}
use Rattle.mesh_counts_laws.proofs.Slots.{IsGraded, IsOther, graded, other_back}
use Rattle.mesh_counts_laws.proofs.Sorted.{IsCount, from_zero_ahead, from_zero_back}

-- a level crosses a slope at its shoaler end where both ends reach it, at its deeper end where neither does
at_low : (f : Field) (s : Slope) (u v : NodeId) → s ≡ upwards u v → (k : ℕ) → k ≤ band_at f u → crossing f s k ≡ point f u
at_low f s u v e k l =
    let r : nat_le k (band_at f u) ≡ true = grind (arith, nat_tests, l) in
    subst (λ x. crossing f x k ≡ point f u) (sym e) (above_both f (upwards u v) k r)

at_high : (f : Field) (s : Slope) (u v : NodeId) → s ≡ upwards u v → band_at f u ≤ band_at f v → (k : ℕ) → band_at f v < k → crossing f s k ≡ point f v
at_high f s u v e rises k l =
    let r : nat_le k (band_at f u) ≡ false = grind (arith, nat_tests, l, rises) in
    let t : nat_le k (band_at f v) ≡ false = grind (arith, nat_tests, l) in
    subst (λ x. crossing f x k ≡ point f v) (sym e) (below_both f (upwards u v) k r t)

reached : (k b : ℕ) → nat_le k b ≡ true → k ≤ b
reached k b e = grind (arith, nat_tests)

less_where_not_le : (k b : ℕ) → nat_le k b ≡ false → b < k
less_where_not_le k b e = grind (arith, nat_tests)

module _ (f : Field) (h : IsField f) where
  -- a walk between two nodes of the field
  pub record IsLeg (w : Walk) : Type 0 where
    pub begins : InField f h (from w)
    pub ends : InField f h (to w)
    pub other : IsOther (from w) (to w)

  -- three walks round a triangle, clockwise
  pub record IsRound (w1 w2 w3 : Walk) : Type 0 where
    pub on : to w1 ≡ from w2
    pub on_again : to w2 ≡ from w3
    pub round : to w3 ≡ from w1
    pub leg_first : IsLeg w1
    pub leg_second : IsLeg w2
    pub leg_third : IsLeg w3
    pub turns : cross_of (point f (from w1)) (point f (from w2)) (point f (from w3)) ≤ℤ pos 0
    pub not_up : deepens f w1 ≡ true → deepens f w2 ≡ true → deepens f w3 ≡ true → ⊥
    pub not_down : deepens f w1 ≡ false → deepens f w2 ≡ false → deepens f w3 ≡ false → ⊥

  pub rotated : (w1 w2 w3 : Walk) → IsRound w1 w2 w3 → IsRound w2 w3 w1
  rotated w1 w2 w3 c = record {
    on = c.on_again;
    on_again = c.round;
    round = c.on;
    leg_first = c.leg_second;
    leg_second = c.leg_third;
    leg_third = c.leg_first;
    turns = subst (λ z. z ≤ℤ pos 0) (sym (side_round (point f (from w1)) (point f (from w2)) (point f (from w3)))) c.turns;
    not_up = λ a b d. c.not_up d a b;
    not_down = λ a b d. c.not_down d a b;
  }

  abbrev slope_of : Walk → Slope
  slope_of w = slope f (first w.link) (second w.link)

  pub graded_on : (w : Walk) → IsLeg w → deepens f w ≡ true → IsGraded (point f (from w)) (point f (to w)) (crossed f w)
  graded_on w l d = subst (λ s. IsGraded (point f (from w)) (point f (to w)) (crossing f s)) (sym (leads_on f w d).is) (graded f h (from w) (to w) l.begins l.ends l.other)

  pub graded_back : (w : Walk) → IsLeg w → deepens f w ≡ false → IsGraded (point f (to w)) (point f (from w)) (crossed f w)
  graded_back w l d = subst (λ s. IsGraded (point f (to w)) (point f (from w)) (crossing f s)) (sym (leads_back f w d).is) (graded f h (to w) (from w) l.ends l.begins (other_back (from w) (to w) l.other))

  -- the crossings of a leg's slope lie in order along it
  pub graded_slope : (w : Walk) → IsLeg w → IsGraded (point f (slope_of w).u) (point f (slope_of w).v) (crossing f (slope_of w))
  graded_slope w l = by (deepens f w) refl
    where
      by : (d : Bool) → deepens f w ≡ d → IsGraded (point f (slope_of w).u) (point f (slope_of w).v) (crossing f (slope_of w))
      by true d = subst (λ s. IsGraded (point f s.u) (point f s.v) (crossing f s)) (sym (leads_on f w d).is) (graded f h (from w) (to w) l.begins l.ends l.other)
      by false d = subst (λ s. IsGraded (point f s.u) (point f s.v) (crossing f s)) (sym (leads_back f w d).is) (graded f h (to w) (from w) l.ends l.begins (other_back (from w) (to w) l.other))

  module _ (Q : Point → Type 0) (R : ℤ → Type 0) (g : Seg → ℤ) (reversed : IsReversed g) (counts : IsCount Q R (λ a b. g (seg a b))) where
    abbrev t : Point → Point → ℤ
    t a b = g (seg a b)

    -- a chord by which corners reach its level, and where the legs cross it
    abbrev pub chord_by : Bool → Bool → Bool → Point → Point → Point → ℤ
    chord_by x y z a b c = cond (not ((x && y) && z) && ((x || y) || z)) (g (seg (pick (x && not y) (y && not z) (z && not x) a b c nowhere) (pick (not x && y) (not y && z) (not z && x) a b c nowhere))) (pos 0)

    chord_rotated : (x y z : Bool) (a b c : Point) → chord_by x y z a b c ≡ chord_by y z x b c a
    chord_rotated true true true a b c = refl
    chord_rotated true true false a b c = refl
    chord_rotated true false true a b c = refl
    chord_rotated true false false a b c = refl
    chord_rotated false true true a b c = refl
    chord_rotated false true false a b c = refl
    chord_rotated false false true a b c = refl
    chord_rotated false false false a b c = refl

    abbrev pub chord_round : Walk → Walk → Walk → ℕ → ℤ
    chord_round w1 w2 w3 k = chord_by (reaches f k w1) (reaches f k w2) (reaches f k w3) (crossed f w1 k) (crossed f w2 k) (crossed f w3 k)

    -- the outline of a piece: its parts of the three legs, the chord of its level ahead and that of the next level back
    abbrev pub outline_value : Walk → Walk → Walk → ℕ → ℤ
    outline_value w1 w2 w3 b = (g (level_part f g w1 b) +ℤ (g (level_part f g w2 b) +ℤ g (level_part f g w3 b))) +ℤ (chord_round w1 w2 w3 b -ℤ chord_round w1 w2 w3 (b + 1))

    outline_rotated : (w1 w2 w3 : Walk) (b : ℕ) → outline_value w2 w3 w1 b ≡ outline_value w1 w2 w3 b
    outline_rotated w1 w2 w3 b =
        same (g (level_part f g w1 b)) (g (level_part f g w2 b)) (g (level_part f g w3 b))
        (chord_rotated (reaches f b w1) (reaches f b w2) (reaches f b w3) (crossed f w1 b) (crossed f w2 b) (crossed f w3 b))
        (chord_rotated (reaches f (b + 1) w1) (reaches f (b + 1) w2) (reaches f (b + 1) w3) (crossed f w1 (b + 1)) (crossed f w2 (b + 1)) (crossed f w3 (b + 1)))
      where
        same : (p q r : ℤ) {c d c' d' : ℤ} → c ≡ c' → d ≡ d' → (q +ℤ (r +ℤ p)) +ℤ (c' -ℤ d') ≡ (p +ℤ (q +ℤ r)) +ℤ (c -ℤ d)
        same p q r e k = omega (arith, ints, e, k)

    part_on : (w : Walk) (b : ℕ) → deepens f w ≡ true → g (level_part f g w b) ≡ t (crossed f w b) (crossed f w (b + 1))
    part_on w b d = ap (λ x. g (cond x (seg (crossed f w b) (crossed f w (b + 1))) (seg (crossed f w (b + 1)) (crossed f w b)))) d

    part_back : (w : Walk) (b : ℕ) → deepens f w ≡ false → g (level_part f g w b) ≡ t (crossed f w (b + 1)) (crossed f w b)
    part_back w b d = ap (λ x. g (cond x (seg (crossed f w b) (crossed f w (b + 1))) (seg (crossed f w (b + 1)) (crossed f w b)))) d

    point_alone : (a b c : Point) → a ≡ c → b ≡ c → pos 0 ≡ t a b
    point_alone a b c e k = sym (ap₂ t e k ∙ counts.none c)

    ahead_of : (p q r c d : ℤ) {p' q' r' c' d' e' : ℤ} → p ≡ p' → q ≡ q' → r ≡ r' → c ≡ c' → d ≡ d' → e' ≡ neg_ℤ d' → p' +ℤ (q' +ℤ (r' +ℤ (c' +ℤ e'))) ≡ (p +ℤ (q +ℤ r)) +ℤ (c -ℤ d)
    ahead_of p q r c d e1 e2 e3 e4 e5 e6 = omega (arith, ints, e1, e2, e3, e4, e5, e6)

    back_of : (p q r c d : ℤ) {p' q' r' c' d' e' : ℤ} → p ≡ p' → q ≡ q' → r ≡ r' → c ≡ c' → d ≡ d' → e' ≡ neg_ℤ d' → q' +ℤ (p' +ℤ (r' +ℤ (c' +ℤ e'))) ≡ (p +ℤ (q +ℤ r)) +ℤ (c -ℤ d)
    back_of p q r c d e1 e2 e3 e4 e5 e6 = omega (arith, ints, e1, e2, e3, e4, e5, e6)

    -- the corners of a triangle and the crossings of its legs are places of the kind
    pub record ArePlaces (w1 w2 w3 : Walk) : Type 0 where
      pub first_corner : Q (point f (from w1))
      pub second_corner : Q (point f (from w2))
      pub third_corner : Q (point f (from w3))
      pub first_leg : (k : ℕ) → Q (crossed f w1 k)
      pub second_leg : (k : ℕ) → Q (crossed f w2 k)
      pub third_leg : (k : ℕ) → Q (crossed f w3 k)

    places_rotated : (w1 w2 w3 : Walk) → ArePlaces w1 w2 w3 → ArePlaces w2 w3 w1
    places_rotated w1 w2 w3 a = record { first_corner = a.second_corner; second_corner = a.third_corner; third_corner = a.first_corner; first_leg = a.second_leg; second_leg = a.third_leg; third_leg = a.first_leg }

    -- two legs go deeper: the walk begins at the shoalest corner and comes by the middle one
    module _ (w1 w2 w3 : Walk) (c : IsRound w1 w2 w3) (a : ArePlaces w1 w2 w3) (d1 : deepens f w1 ≡ true) (d2 : deepens f w2 ≡ true) (d3 : deepens f w3 ≡ false) where
      up_first : slope_of w1 ≡ upwards (from w1) (from w2)
      up_first = (leads_on f w1 d1).is ∙ ap (upwards (from w1)) c.on

      up_second : slope_of w2 ≡ upwards (from w2) (from w3)
      up_second = (leads_on f w2 d2).is ∙ ap (upwards (from w2)) c.on_again

      up_third : slope_of w3 ≡ upwards (from w1) (from w3)
      up_third = (leads_back f w3 d3).is ∙ ap (λ n. upwards n (from w3)) c.round

      rise_first : band_at f (from w1) ≤ band_at f (from w2)
      rise_first = let r = (leads_on f w1 d1).rises in let e = ap (band_at f) c.on in omega (arith, r, e)

      rise_second : band_at f (from w2) ≤ band_at f (from w3)
      rise_second = let r = (leads_on f w2 d2).rises in let e = ap (band_at f) c.on_again in omega (arith, r, e)

      abbrev bent : ℕ → Point
      bent k = cond (nat_le k (band_at f (from w2))) (crossed f w1 k) (crossed f w2 k)

      chord_ahead : (k : ℕ) (x y z : Bool) → reaches f k w1 ≡ x → reaches f k w2 ≡ y → reaches f k w3 ≡ z → chord_by x y z (crossed f w1 k) (crossed f w2 k) (crossed f w3 k) ≡ t (crossed f w3 k) (cond y (crossed f w1 k) (crossed f w2 k))
      chord_ahead k true true true p q r =
          let l = reached k (band_at f (from w1)) p in
          point_alone (crossed f w3 k) (crossed f w1 k) (point f (from w1)) (at_low f (slope_of w3) (from w1) (from w3) up_third k l) (at_low f (slope_of w1) (from w1) (from w2) up_first k l)
      chord_ahead k false true true p q r = refl
      chord_ahead k false false true p q r = refl
      chord_ahead k false false false p q r =
          let l = less_where_not_le k (band_at f (from w3)) r in
          point_alone (crossed f w3 k) (crossed f w2 k) (point f (from w3)) (at_high f (slope_of w3) (from w1) (from w3) up_third (omega (arith, rise_first, rise_second)) k l) (at_high f (slope_of w2) (from w2) (from w3) up_second rise_second k l)
      chord_ahead k true false z p q r = absurd (omega (arith, rise_first, reached k (band_at f (from w1)) p, less_where_not_le k (band_at f (from w2)) q))
      chord_ahead k true true false p q r = absurd (omega (arith, rise_second, reached k (band_at f (from w2)) q, less_where_not_le k (band_at f (from w3)) r))
      chord_ahead k false true false p q r = absurd (omega (arith, rise_second, reached k (band_at f (from w2)) q, less_where_not_le k (band_at f (from w3)) r))

      first_graded : IsGraded (point f (from w1)) (point f (from w2)) (crossed f w1)
      first_graded = subst (λ n. IsGraded (point f (from w1)) (point f n) (crossed f w1)) c.on (graded_on w1 c.leg_first d1)

      second_graded : IsGraded (point f (from w2)) (point f (from w3)) (crossed f w2)
      second_graded = subst (λ n. IsGraded (point f (from w2)) (point f n) (crossed f w2)) c.on_again (graded_on w2 c.leg_second d2)

      third_graded : IsGraded (point f (from w1)) (point f (from w3)) (crossed f w3)
      third_graded = subst (λ n. IsGraded (point f n) (point f (from w3)) (crossed f w3)) c.round (graded_back w3 c.leg_third d3)

      by_middle : (b : ℕ) → R (outline_value w1 w2 w3 b)
      by_middle b = subst R
          (ahead_of (g (level_part f g w1 b)) (g (level_part f g w2 b)) (g (level_part f g w3 b)) (chord_round w1 w2 w3 b) (chord_round w1 w2 w3 (b + 1))
          (part_on w1 b d1) (part_on w2 b d2) (part_back w3 b d3)
          (chord_ahead b (reaches f b w1) (reaches f b w2) (reaches f b w3) refl refl refl)
          (chord_ahead (b + 1) (reaches f (b + 1) w1) (reaches f (b + 1) w2) (reaches f (b + 1) w3) refl refl refl)
          (reversed (seg (crossed f w3 (b + 1)) (bent (b + 1)))))
          (from_zero_ahead Q R t counts (point f (from w1)) (point f (from w2)) (point f (from w3)) (crossed f w1) (crossed f w2) (crossed f w3) (band_at f (from w2)) first_graded second_graded third_graded
          (λ k l. at_high f (slope_of w1) (from w1) (from w2) up_first rise_first k l)
          (λ k l. at_low f (slope_of w2) (from w2) (from w3) up_second k l)
          a.first_leg a.second_leg a.third_leg a.second_corner
          c.turns b)

    -- one does: the walk begins at the deepest corner
    module _ (w1 w2 w3 : Walk) (c : IsRound w1 w2 w3) (a : ArePlaces w1 w2 w3) (d1 : deepens f w1 ≡ false) (d2 : deepens f w2 ≡ false) (d3 : deepens f w3 ≡ true) where
      down_first : slope_of w1 ≡ upwards (from w2) (from w1)
      down_first = (leads_back f w1 d1).is ∙ ap (λ n. upwards n (from w1)) c.on

      down_second : slope_of w2 ≡ upwards (from w3) (from w2)
      down_second = (leads_back f w2 d2).is ∙ ap (λ n. upwards n (from w2)) c.on_again

      down_third : slope_of w3 ≡ upwards (from w3) (from w1)
      down_third = (leads_on f w3 d3).is ∙ ap (upwards (from w3)) c.round

      fall_first : band_at f (from w2) ≤ band_at f (from w1)
      fall_first = let r = (leads_back f w1 d1).rises in let e = ap (band_at f) c.on in omega (arith, r, e)

      fall_second : band_at f (from w3) ≤ band_at f (from w2)
      fall_second = let r = (leads_back f w2 d2).rises in let e = ap (band_at f) c.on_again in omega (arith, r, e)

      abbrev bent_back : ℕ → Point
      bent_back k = cond (nat_le k (band_at f (from w2))) (crossed f w2 k) (crossed f w1 k)

      chord_back : (k : ℕ) (x y z : Bool) → reaches f k w1 ≡ x → reaches f k w2 ≡ y → reaches f k w3 ≡ z → chord_by x y z (crossed f w1 k) (crossed f w2 k) (crossed f w3 k) ≡ t (cond y (crossed f w2 k) (crossed f w1 k)) (crossed f w3 k)
      chord_back k true true true p q r =
          let l = reached k (band_at f (from w3)) r in
          point_alone (crossed f w2 k) (crossed f w3 k) (point f (from w3)) (at_low f (slope_of w2) (from w3) (from w2) down_second k l) (at_low f (slope_of w3) (from w3) (from w1) down_third k l)
      chord_back k true true false p q r = refl
      chord_back k true false false p q r = refl
      chord_back k false false false p q r =
          let l = less_where_not_le k (band_at f (from w1)) p in
          point_alone (crossed f w1 k) (crossed f w3 k) (point f (from w1)) (at_high f (slope_of w1) (from w2) (from w1) down_first fall_first k l) (at_high f (slope_of w3) (from w3) (from w1) down_third (omega (arith, fall_first, fall_second)) k l)
      chord_back k x false true p q r = absurd (omega (arith, fall_second, reached k (band_at f (from w3)) r, less_where_not_le k (band_at f (from w2)) q))
      chord_back k false true z p q r = absurd (omega (arith, fall_first, reached k (band_at f (from w2)) q, less_where_not_le k (band_at f (from w1)) p))

      first_down : IsGraded (point f (from w2)) (point f (from w1)) (crossed f w1)
      first_down = subst (λ n. IsGraded (point f n) (point f (from w1)) (crossed f w1)) c.on (graded_back w1 c.leg_first d1)

      second_down : IsGraded (point f (from w3)) (point f (from w2)) (crossed f w2)
      second_down = subst (λ n. IsGraded (point f n) (point f (from w2)) (crossed f w2)) c.on_again (graded_back w2 c.leg_second d2)

      third_down : IsGraded (point f (from w3)) (point f (from w1)) (crossed f w3)
      third_down = subst (λ n. IsGraded (point f (from w3)) (point f n) (crossed f w3)) c.round (graded_on w3 c.leg_third d3)

      by_deepest : (b : ℕ) → R (outline_value w1 w2 w3 b)
      by_deepest b = subst R
          (back_of (g (level_part f g w1 b)) (g (level_part f g w2 b)) (g (level_part f g w3 b)) (chord_round w1 w2 w3 b) (chord_round w1 w2 w3 (b + 1))
          (part_back w1 b d1) (part_back w2 b d2) (part_on w3 b d3)
          (chord_back b (reaches f b w1) (reaches f b w2) (reaches f b w3) refl refl refl)
          (chord_back (b + 1) (reaches f (b + 1) w1) (reaches f (b + 1) w2) (reaches f (b + 1) w3) refl refl refl)
          (reversed (seg (bent_back (b + 1)) (crossed f w3 (b + 1)))))
          (from_zero_back Q R t counts (point f (from w3)) (point f (from w2)) (point f (from w1)) (crossed f w2) (crossed f w1) (crossed f w3) (band_at f (from w2)) second_down first_down third_down
          (λ k l. at_high f (slope_of w2) (from w3) (from w2) down_second fall_second k l)
          (λ k l. at_low f (slope_of w1) (from w2) (from w1) down_first k l)
          a.second_leg a.first_leg a.third_leg a.second_corner
          (subst (λ z. z ≤ℤ pos 0) (side_round (point f (from w3)) (point f (from w1)) (point f (from w2))) c.turns) b)

    -- whichever corner the walk begins at, the outline of a piece has what is wanted
    pub from_zero : (w1 w2 w3 : Walk) → IsRound w1 w2 w3 → ArePlaces w1 w2 w3 → (b : ℕ) → R (outline_value w1 w2 w3 b)
    from_zero w1 w2 w3 c a b = by (deepens f w1) (deepens f w2) (deepens f w3) refl refl refl
      where
        once : R (outline_value w2 w3 w1 b) → R (outline_value w1 w2 w3 b)
        once s = subst R (outline_rotated w1 w2 w3 b) s

        twice : R (outline_value w3 w1 w2 b) → R (outline_value w1 w2 w3 b)
        twice s = once (subst R (outline_rotated w2 w3 w1 b) s)

        second : IsRound w2 w3 w1
        second = rotated w1 w2 w3 c

        third : IsRound w3 w1 w2
        third = rotated w2 w3 w1 second

        by : (x y z : Bool) → deepens f w1 ≡ x → deepens f w2 ≡ y → deepens f w3 ≡ z → R (outline_value w1 w2 w3 b)
        by true true true p q r = absurd (c.not_up p q r)
        by false false false p q r = absurd (c.not_down p q r)
        by true true false p q r = by_middle w1 w2 w3 c a p q r b
        by false true true p q r = once (by_middle w2 w3 w1 second (places_rotated w1 w2 w3 a) q r p b)
        by true false true p q r = twice (by_middle w3 w1 w2 third (places_rotated w2 w3 w1 (places_rotated w1 w2 w3 a)) r p q b)
        by false false true p q r = by_deepest w1 w2 w3 c a p q r b
        by true false false p q r = once (by_deepest w2 w3 w1 second (places_rotated w1 w2 w3 a) q r p b)
        by false true false p q r = twice (by_deepest w3 w1 w2 third (places_rotated w2 w3 w1 (places_rotated w1 w2 w3 a)) r p q b)
