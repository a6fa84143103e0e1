-- The outline of a piece of a triangle whose corners are sorted by depth never counts below 0.
use Rattle.std.proofs.Common.{◌≡◌, ◌⊎◌, ⊎_elim, ℕ, ◌+◌, ◌<◌, ◌≤◌, ℤ, pos, ◌+ℤ◌, ◌-ℤ◌, ◌*ℤ◌, ◌≤ℤ◌, ◌<ℤ◌, neg_ℤ, true, false, cond, [], ◌∷◌, refl, sym, ap, ap₂, subst, ◌∙◌, arith}
use Rattle.std.specs.Prelude.{nat_le}
use Rattle.std.proofs.lemmas.Bool.Decides.{nat_tests}
use Rattle.std.proofs.lemmas.Int.{ints}
use Rattle.plane_geom.specs.Geom.{cross_of}
use Rattle.plane_geom.specs.declared.Point.{Point}
use Rattle.plane_laws.specs.Outlines.{Vector, at, opposite, turning, IsConvex}
use Rattle.plane_laws.specs.Pieces.{HasMiddle}
use Rattle.plane_laws.proofs.Algebra.{ring, V, Sub, Mul, Neg, mul_pos, nonpos_from_mul}
use Rattle.plane_laws.proofs.Chords.{at_poly, cross_poly, turning_poly}
use Rattle.plane_laws.proofs.Lines.{side_round}
use Rattle.plane_laws.proofs.Pieces.{corner_convex, middle_convex, middle_convex_back, leg_from_other_end}
use Rattle.tri_mesh.proofs.Steps.{at_none}
use Rattle.mesh_counts_laws.proofs.Slots.{IsGraded}

-- a value of segments that is 0 for a segment from a point to itself, and has what is wanted of it, R, round each convex outline of four or five corners that are places of a kind, Q
pub record IsCount (Q : Point → Type 0) (R : ℤ → Type 0) (t : Point → Point → ℤ) : Type 0 where
  pub none : (a : Point) → t a a ≡ pos 0
  pub four : (a b c d : Point) → Q a → Q b → Q c → Q d → IsConvex (a ∷ b ∷ c ∷ d ∷ []) → R (t a b +ℤ (t b c +ℤ (t c d +ℤ t d a)))
  pub five : (a b c d e : Point) → Q a → Q b → Q c → Q d → Q e → IsConvex (a ∷ b ∷ c ∷ d ∷ e ∷ []) → R (t a b +ℤ (t b c +ℤ (t c d +ℤ (t d e +ℤ t e a))))

-- an outline that has the corners of a convex one is convex
pub same_four : {a b c d a' b' c' d' : Point} → a ≡ a' → b ≡ b' → c ≡ c' → d ≡ d' → IsConvex (a' ∷ b' ∷ c' ∷ d' ∷ []) → IsConvex (a ∷ b ∷ c ∷ d ∷ [])
same_four {a} {b} {c} {d} {a'} {b'} {c'} {d'} p q r s h =
    subst (λ x. IsConvex (x ∷ b ∷ c ∷ d ∷ [])) (sym p) (subst (λ x. IsConvex (a' ∷ x ∷ c ∷ d ∷ [])) (sym q) (subst (λ x. IsConvex (a' ∷ b' ∷ x ∷ d ∷ [])) (sym r) (subst (λ x. IsConvex (a' ∷ b' ∷ c' ∷ x ∷ [])) (sym s) h)))

same_five : {a b c d e a' b' c' d' e' : Point} → a ≡ a' → b ≡ b' → c ≡ c' → d ≡ d' → e ≡ e' → IsConvex (a' ∷ b' ∷ c' ∷ d' ∷ e' ∷ []) → IsConvex (a ∷ b ∷ c ∷ d ∷ e ∷ [])
same_five {a} {b} {c} {d} {e} {a'} {b'} {c'} {d'} {e'} p q r s t h =
    subst (λ x. IsConvex (x ∷ b ∷ c ∷ d ∷ e ∷ [])) (sym p) (subst (λ x. IsConvex (a' ∷ x ∷ c ∷ d ∷ e ∷ [])) (sym q) (subst (λ x. IsConvex (a' ∷ b' ∷ x ∷ d ∷ e ∷ [])) (sym r) (subst (λ x. IsConvex (a' ∷ b' ∷ c' ∷ x ∷ e ∷ [])) (sym s) (subst (λ x. IsConvex (a' ∷ b' ∷ c' ∷ d' ∷ x ∷ [])) (sym t) h))))

-- the same sign, where a corner is taken as the origin
turns_scaled : (w : Point) (e g : Vector) (n l : ℤ) → cross_of w (at w e n) (at w g l) ≡ (n *ℤ l) *ℤ turning e g
turns_scaled w e g n l = ring (cross_poly (record { px = V w.x; py = V w.y }) (at_poly w e n) (at_poly w g l)) (Mul (Mul (V n) (V l)) (turning_poly e g)) (omega arith)

-- the legs of a corner turn as its triangle does
legs_turn : (w a b : Point) (e g : Vector) (n l : ℤ) → at w e n ≡ a → at w g l ≡ b → pos 0 <ℤ n → pos 0 <ℤ l → cross_of w a b ≤ℤ pos 0 → turning e g ≤ℤ pos 0
legs_turn w a b e g n l on_a on_b n0 l0 h =
    let s : cross_of w (at w e n) (at w g l) ≤ℤ pos 0 = subst (λ x. cross_of w x (at w g l) ≤ℤ pos 0) (sym on_a) (subst (λ x. cross_of w a x ≤ℤ pos 0) (sym on_b) h) in
    nonpos_from_mul (n *ℤ l) (turning e g) (mul_pos n l n0 l0) (subst (λ z. z ≤ℤ pos 0) (turns_scaled w e g n l) s)

module _ (Q : Point → Type 0) (R : ℤ → Type 0) (t : Point → Point → ℤ) (counts : IsCount Q R t) (L M H : Point) (P1 P2 P3 : ℕ → Point) (m : ℕ) (g1 : IsGraded L M P1) (g2 : IsGraded M H P2) (g3 : IsGraded L H P3)
    (ends_first : (k : ℕ) → m < k → P1 k ≡ M) (starts_second : (k : ℕ) → k ≤ m → P2 k ≡ M)
    (q1 : (k : ℕ) → Q (P1 k)) (q2 : (k : ℕ) → Q (P2 k)) (q3 : (k : ℕ) → Q (P3 k)) (qm : Q M) where
  -- where the chord of a level meets the two legs of the middle corner
  abbrev pub bent : ℕ → Point
  bent k = cond (nat_le k m) (P1 k) (P2 k)

  bent_low : (k : ℕ) → k ≤ m → bent k ≡ P1 k
  bent_low k l = let e : nat_le k m ≡ true = grind (arith, nat_tests) in ap (λ x. cond x (P1 k) (P2 k)) e

  bent_high : (k : ℕ) → m < k → bent k ≡ P2 k
  bent_high k l = let e : nat_le k m ≡ false = grind (arith, nat_tests) in ap (λ x. cond x (P1 k) (P2 k)) e

  -- counted from the far end of a leg
  from_far : (u v : Point) (P : ℕ → Point) (g : IsGraded u v P) (k : ℕ) → P k ≡ at v (opposite g.step) (g.n -ℤ g.slot k)
  from_far u v P g k = g.is k ∙ (sym (leg_from_other_end u g.step g.n (g.slot k)) ∙ ap (λ w. at w (opposite g.step) (g.n -ℤ g.slot k)) g.end)

  opposites : (e g : Vector) → turning (opposite e) (opposite g) ≡ turning e g
  opposites e g = ring (Sub (Mul (Neg (V e.x)) (Neg (V g.y))) (Mul (Neg (V e.y)) (Neg (V g.x)))) (turning_poly e g) (omega arith)

  same : {a a' b b' : Point} → a ≡ a' → b ≡ b' → t a b ≡ t a' b'
  same e k = ap₂ t e k

  still : (a b c : Point) → a ≡ c → b ≡ c → t a b ≡ pos 0
  still a b c e k = ap₂ t e k ∙ counts.none c

  -- the outline of the piece between level b and the next, walked up the two legs of the middle corner
  abbrev pub ahead_value : ℕ → ℤ
  ahead_value b = t (P1 b) (P1 (b + 1)) +ℤ (t (P2 b) (P2 (b + 1)) +ℤ (t (P3 (b + 1)) (P3 b) +ℤ (t (P3 b) (bent b) +ℤ t (bent (b + 1)) (P3 (b + 1)))))

  -- and down them
  abbrev pub back_value : ℕ → ℤ
  back_value b = t (P1 (b + 1)) (P1 b) +ℤ (t (P2 (b + 1)) (P2 b) +ℤ (t (P3 b) (P3 (b + 1)) +ℤ (t (bent b) (P3 b) +ℤ t (P3 (b + 1)) (bent (b + 1)))))

  module _ (b : ℕ) where
    abbrev n : ℕ
    n = b + 1

    -- both chords on the shoaler leg
    low_ahead : turning g1.step g3.step ≤ℤ pos 0 → n ≤ m → R (ahead_value b)
    low_ahead turns l =
        let c : IsConvex (P1 b ∷ P1 n ∷ P3 n ∷ P3 b ∷ []) = same_four (g1.is b) (g1.is n) (g3.is n) (g3.is b)
        (corner_convex L g1.step g3.step (g1.slot b) (g1.slot n) (g3.slot b) (g3.slot n) turns (g1.low b) (g1.rises b) (g3.low b) (g3.rises b)) in
        let s = counts.four (P1 b) (P1 n) (P3 n) (P3 b) (q1 b) (q1 n) (q3 n) (q3 b) c in
        let x = same {a = P3 b} {b = bent b} refl (bent_low b (omega (arith, l))) in
        let y = same {a = bent n} {b = P3 n} (bent_low n l) refl in
        let z = still (P2 b) (P2 n) M (starts_second b (omega (arith, l))) (starts_second n l) in
        let e : t (P1 b) (P1 n) +ℤ (t (P1 n) (P3 n) +ℤ (t (P3 n) (P3 b) +ℤ t (P3 b) (P1 b))) ≡ ahead_value b = omega (arith, ints, x, y, z) in
        subst R e s

    low_back : turning g3.step g1.step ≤ℤ pos 0 → n ≤ m → R (back_value b)
    low_back turns l =
        let c : IsConvex (P3 b ∷ P3 n ∷ P1 n ∷ P1 b ∷ []) = same_four (g3.is b) (g3.is n) (g1.is n) (g1.is b)
        (corner_convex L g3.step g1.step (g3.slot b) (g3.slot n) (g1.slot b) (g1.slot n) turns (g3.low b) (g3.rises b) (g1.low b) (g1.rises b)) in
        let s = counts.four (P3 b) (P3 n) (P1 n) (P1 b) (q3 b) (q3 n) (q1 n) (q1 b) c in
        let x = same {a = bent b} {b = P3 b} (bent_low b (omega (arith, l))) refl in
        let y = same {a = P3 n} {b = bent n} refl (bent_low n l) in
        let z = still (P2 n) (P2 b) M (starts_second n l) (starts_second b (omega (arith, l))) in
        let e : t (P3 b) (P3 n) +ℤ (t (P3 n) (P1 n) +ℤ (t (P1 n) (P1 b) +ℤ t (P1 b) (P3 b))) ≡ back_value b = omega (arith, ints, x, y, z) in
        subst R e s

    far_low : (u v : Point) (P : ℕ → Point) (g : IsGraded u v P) (k : ℕ) → pos 0 ≤ℤ (g.n -ℤ g.slot k)
    far_low u v P g k = let h = g.high k in omega (arith, ints, h)

    far_rises : (u v : Point) (P : ℕ → Point) (g : IsGraded u v P) → (g.n -ℤ g.slot n) ≤ℤ (g.n -ℤ g.slot b)
    far_rises u v P g = let h = g.rises b in omega (arith, ints, h)

    -- both on the deeper one
    high_ahead : turning g3.step g2.step ≤ℤ pos 0 → m < b → R (ahead_value b)
    high_ahead turns l =
        let turns' : turning (opposite g3.step) (opposite g2.step) ≤ℤ pos 0 = subst (λ z. z ≤ℤ pos 0) (sym (opposites g3.step g2.step)) turns in
        let c : IsConvex (P3 n ∷ P3 b ∷ P2 b ∷ P2 n ∷ []) = same_four (from_far L H P3 g3 n) (from_far L H P3 g3 b) (from_far M H P2 g2 b) (from_far M H P2 g2 n)
        (corner_convex H (opposite g3.step) (opposite g2.step) (g3.n -ℤ g3.slot n) (g3.n -ℤ g3.slot b) (g2.n -ℤ g2.slot n) (g2.n -ℤ g2.slot b) turns' (far_low L H P3 g3 n) (far_rises L H P3 g3) (far_low M H P2 g2 n) (far_rises M H P2 g2)) in
        let s = counts.four (P3 n) (P3 b) (P2 b) (P2 n) (q3 n) (q3 b) (q2 b) (q2 n) c in
        let x = same {a = P3 b} {b = bent b} refl (bent_high b l) in
        let y = same {a = bent n} {b = P3 n} (bent_high n (omega (arith, l))) refl in
        let z = still (P1 b) (P1 n) M (ends_first b l) (ends_first n (omega (arith, l))) in
        let e : t (P3 n) (P3 b) +ℤ (t (P3 b) (P2 b) +ℤ (t (P2 b) (P2 n) +ℤ t (P2 n) (P3 n))) ≡ ahead_value b = omega (arith, ints, x, y, z) in
        subst R e s

    high_back : turning g2.step g3.step ≤ℤ pos 0 → m < b → R (back_value b)
    high_back turns l =
        let turns' : turning (opposite g2.step) (opposite g3.step) ≤ℤ pos 0 = subst (λ z. z ≤ℤ pos 0) (sym (opposites g2.step g3.step)) turns in
        let c : IsConvex (P2 n ∷ P2 b ∷ P3 b ∷ P3 n ∷ []) = same_four (from_far M H P2 g2 n) (from_far M H P2 g2 b) (from_far L H P3 g3 b) (from_far L H P3 g3 n)
        (corner_convex H (opposite g2.step) (opposite g3.step) (g2.n -ℤ g2.slot n) (g2.n -ℤ g2.slot b) (g3.n -ℤ g3.slot n) (g3.n -ℤ g3.slot b) turns' (far_low M H P2 g2 n) (far_rises M H P2 g2) (far_low L H P3 g3 n) (far_rises L H P3 g3)) in
        let s = counts.four (P2 n) (P2 b) (P3 b) (P3 n) (q2 n) (q2 b) (q3 b) (q3 n) c in
        let x = same {a = bent b} {b = P3 b} (bent_high b l) refl in
        let y = same {a = P3 n} {b = bent n} refl (bent_high n (omega (arith, l))) in
        let z = still (P1 n) (P1 b) M (ends_first n (omega (arith, l))) (ends_first b l) in
        let e : t (P2 n) (P2 b) +ℤ (t (P2 b) (P3 b) +ℤ (t (P3 b) (P3 n) +ℤ t (P3 n) (P2 n))) ≡ back_value b = omega (arith, ints, x, y, z) in
        subst R e s

    -- one on each
    middle : HasMiddle L g1.step g3.step g2.step g1.n g2.n g3.n (g1.slot b) (g2.slot n) (g3.slot n) (g3.slot b)
    middle = record {
      closes = ap (λ w. at w g2.step g2.n) g1.end ∙ (g2.end ∙ sym g3.end);
      first_low = g1.low b;
      first_high = g1.high b;
      near_low = g3.low b;
      in_order = g3.rises b;
      far_high = g3.high n;
      second_low = g2.low n;
      second_high = g2.high n;
      long = g2.long;
    }

    between : P2 n ≡ at (at L g1.step g1.n) g2.step (g2.slot n)
    between = g2.is n ∙ ap (λ w. at w g2.step (g2.slot n)) (sym g1.end)

    between_ahead : turning g1.step g3.step ≤ℤ pos 0 → m ≡ b → R (ahead_value b)
    between_ahead turns same_level =
        let c : IsConvex (P1 b ∷ M ∷ P2 n ∷ P3 n ∷ P3 b ∷ []) = same_five (g1.is b) (sym g1.end) (between) (g3.is n) (g3.is b)
        (middle_convex L g1.step g3.step g2.step g1.n g2.n g3.n (g1.slot b) (g2.slot n) (g3.slot n) (g3.slot b) middle turns) in
        let s = counts.five (P1 b) M (P2 n) (P3 n) (P3 b) (q1 b) qm (q2 n) (q3 n) (q3 b) c in
        let x = same {a = P3 b} {b = bent b} refl (bent_low b (omega (arith, same_level))) in
        let y = same {a = bent n} {b = P3 n} (bent_high n (omega (arith, same_level))) refl in
        let u = same {a = P1 b} {b = P1 n} refl (ends_first n (omega (arith, same_level))) in
        let v = same {a = P2 b} {b = P2 n} (starts_second b (omega (arith, same_level))) refl in
        let e : t (P1 b) M +ℤ (t M (P2 n) +ℤ (t (P2 n) (P3 n) +ℤ (t (P3 n) (P3 b) +ℤ t (P3 b) (P1 b)))) ≡ ahead_value b = omega (arith, ints, x, y, u, v) in
        subst R e s

    between_back : pos 0 ≤ℤ turning g1.step g3.step → m ≡ b → R (back_value b)
    between_back turns same_level =
        let c : IsConvex (P3 b ∷ P3 n ∷ P2 n ∷ M ∷ P1 b ∷ []) = same_five (g3.is b) (g3.is n) (between) (sym g1.end) (g1.is b)
        (middle_convex_back L g1.step g3.step g2.step g1.n g2.n g3.n (g1.slot b) (g2.slot n) (g3.slot n) (g3.slot b) middle turns) in
        let s = counts.five (P3 b) (P3 n) (P2 n) M (P1 b) (q3 b) (q3 n) (q2 n) qm (q1 b) c in
        let x = same {a = bent b} {b = P3 b} (bent_low b (omega (arith, same_level))) refl in
        let y = same {a = P3 n} {b = bent n} refl (bent_high n (omega (arith, same_level))) in
        let u = same {a = P1 n} {b = P1 b} (ends_first n (omega (arith, same_level))) refl in
        let v = same {a = P2 n} {b = P2 b} refl (starts_second b (omega (arith, same_level))) in
        let e : t (P3 b) (P3 n) +ℤ (t (P3 n) (P2 n) +ℤ (t (P2 n) M +ℤ (t M (P1 b) +ℤ t (P1 b) (P3 b)))) ≡ back_value b = omega (arith, ints, x, y, u, v) in
        subst R e s

  order : (b : ℕ) → (b + 1 ≤ m) ⊎ ((m < b) ⊎ (m ≡ b))
  order b = grind arith

  -- the legs of the far corner turn as those of the near one
  first_turns : cross_of L M H ≤ℤ pos 0 → turning g1.step g3.step ≤ℤ pos 0
  first_turns h = legs_turn L M H g1.step g3.step g1.n g3.n g1.end g3.end g1.long g3.long h

  first_turns_back : cross_of L H M ≤ℤ pos 0 → turning g3.step g1.step ≤ℤ pos 0
  first_turns_back h = legs_turn L H M g3.step g1.step g3.n g1.n g3.end g1.end g3.long g1.long h

  far_end : (u v : Point) (P : ℕ → Point) (g : IsGraded u v P) → at v (opposite g.step) g.n ≡ u
  far_end u v P g =
      let none : g.n -ℤ pos 0 ≡ g.n = omega (arith, ints) in
      ap₂ (λ w z. at w (opposite g.step) z) (sym g.end) (sym none) ∙ (leg_from_other_end u g.step g.n (pos 0) ∙ at_none u g.step)

  far_turns : cross_of L M H ≤ℤ pos 0 → turning g3.step g2.step ≤ℤ pos 0
  far_turns h = subst (λ z. z ≤ℤ pos 0) (opposites g3.step g2.step) (legs_turn H L M (opposite g3.step) (opposite g2.step) g3.n g2.n (far_end L H P3 g3) (far_end M H P2 g2) g3.long g2.long (let e = side_round H L M in omega (arith, ints, e, h)))

  far_turns_back : cross_of L H M ≤ℤ pos 0 → turning g2.step g3.step ≤ℤ pos 0
  far_turns_back h = subst (λ z. z ≤ℤ pos 0) (opposites g2.step g3.step) (legs_turn H M L (opposite g2.step) (opposite g3.step) g2.n g3.n (far_end M H P2 g2) (far_end L H P3 g3) g2.long g3.long (let e = side_round L H M in omega (arith, ints, e, h)))

  -- the outline of a piece of a triangle that runs clockwise from the shoalest corner by the middle one counts from 0 up
  pub from_zero_ahead : cross_of L M H ≤ℤ pos 0 → (b : ℕ) → R (ahead_value b)
  from_zero_ahead h b = ⊎_elim (λ l. low_ahead b (first_turns h) l) (λ o. ⊎_elim (λ l. high_ahead b (far_turns h) l) (λ e. between_ahead b (first_turns h) e) o) (order b)

  -- and of one that does so by the deepest
  pub from_zero_back : cross_of L H M ≤ℤ pos 0 → (b : ℕ) → R (back_value b)
  from_zero_back h b =
      let away : turning g1.step g3.step ≡ neg_ℤ (turning g3.step g1.step) = ring (turning_poly g1.step g3.step) (Neg (turning_poly g3.step g1.step)) (omega arith) in
      ⊎_elim (λ l. low_back b (first_turns_back h) l) (λ o. ⊎_elim (λ l. high_back b (far_turns_back h) l) (λ e'. between_back b (let s = first_turns_back h in omega (arith, ints, away, s)) e') o) (order b)
