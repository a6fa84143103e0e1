-- A segment that is cut at points of it counts what it counts whole.
use Rattle.std.proofs.Common.{◌≡◌, ℤ, pos, ◌+ℤ◌, ◌-ℤ◌, ◌*ℤ◌, neg_ℤ, ◌≤ℤ◌, ◌<ℤ◌, int_lt, Bool, true, false, cond, IsTrue, List, [], ◌∷◌, ◌++◌, map, ap, sym, ◌∙◌, arith, ◌⊎◌, inl, inr, ⊎_elim}
use Rattle.std.proofs.lemmas.Int.{ints, by_lt_z}
use Rattle.plane_geom.specs.Geom.{cross_of, turn_of, winding_number, is_between, IsOn}
use Rattle.plane_geom.specs.Segments.{joins}
use Rattle.plane_geom.specs.declared.Point.{Point}
use Rattle.plane_geom.specs.declared.Seg.{Seg}
use Rattle.plane_laws.specs.Outlines.{Vector, at, seg, IsAlong, Rises}
use Rattle.plane_laws.proofs.Algebra.{ring, Poly, V, Add, Sub, Mul, Neg, mul_nonneg, mul_nonpos, SameSign, same_sign}
use Rattle.plane_laws.proofs.Counts.{count, count_is}
use Rattle.plane_laws.proofs.Passing.{above, passes_level, passes_down, passes_up}

add_up : (t : Bool) (x y z p q r : ℤ) → p ≡ cond t (x -ℤ y) (pos 0) → q ≡ cond t (y -ℤ z) (pos 0) → r ≡ cond t (x -ℤ z) (pos 0) → p +ℤ q ≡ r
add_up true x y z p q r e f g = omega (arith, ints)
add_up false x y z p q r e f g = omega (arith, ints)

-- of a between b and c in either order
between : (a b c : ℤ) → IsTrue (is_between a b c) → (a ≤ℤ b → (a ≤ℤ c) × (c ≤ℤ b)) × (b ≤ℤ a → (b ≤ℤ c) × (c ≤ℤ a))
between a b c h = (
  λ l. (grind (arith, ints), grind (arith, ints)),
  λ l. (grind (arith, ints), grind (arith, ints)),
)

-- seen from p the ends are a and a + (dx, h), and the point between is a + (ex, k)
module _ (ax ay dx h ex k : ℤ) (on : dx *ℤ k -ℤ h *ℤ ex ≡ pos 0) where
  no_more : (c : ℤ) → c *ℤ (dx *ℤ k -ℤ h *ℤ ex) ≡ pos 0
  no_more c = ap (λ z. c *ℤ z) on ∙ ring (Mul (V c) (V (pos 0))) (V (pos 0)) (omega arith)

  first_part : h *ℤ (ax *ℤ k -ℤ ay *ℤ ex) ≡ k *ℤ (ax *ℤ h -ℤ ay *ℤ dx)
  first_part =
      let r = ring
      (Mul (V h) (Sub (Mul (V ax) (V k)) (Mul (V ay) (V ex))))
      (Add (Mul (V k) (Sub (Mul (V ax) (V h)) (Mul (V ay) (V dx)))) (Mul (V ay) (Sub (Mul (V dx) (V k)) (Mul (V h) (V ex)))))
      (omega arith) in
      omega (arith, ints, r, no_more ay)

  second_part : h *ℤ ((ax *ℤ h -ℤ ay *ℤ dx) -ℤ (ax *ℤ k -ℤ ay *ℤ ex)) ≡ (h -ℤ k) *ℤ (ax *ℤ h -ℤ ay *ℤ dx)
  second_part =
      let r = ring
      (Mul (V h) (Sub (Sub (Mul (V ax) (V h)) (Mul (V ay) (V dx))) (Sub (Mul (V ax) (V k)) (Mul (V ay) (V ex)))))
      (Sub (Mul (Sub (V h) (V k)) (Sub (Mul (V ax) (V h)) (Mul (V ay) (V dx)))) (Mul (V ay) (Sub (Mul (V dx) (V k)) (Mul (V h) (V ex)))))
      (omega arith) in
      omega (arith, ints, r, no_more ay)

opposite : (n x j y : ℤ) → n *ℤ x ≡ j *ℤ y → neg_ℤ n *ℤ x ≡ neg_ℤ j *ℤ y
opposite n x j y e =
    let a : neg_ℤ n *ℤ x ≡ neg_ℤ (n *ℤ x) = ring (Mul (Neg (V n)) (V x)) (Neg (Mul (V n) (V x))) (omega arith) in
    let b : neg_ℤ j *ℤ y ≡ neg_ℤ (j *ℤ y) = ring (Mul (Neg (V j)) (V y)) (Neg (Mul (V j) (V y))) (omega arith) in
    omega (arith, ints, a, b, e)

module _ (a b q p : Point) (line : cross_of a b q ≡ pos 0) where
  abbrev ax : ℤ
  ax = a.x -ℤ p.x

  abbrev ay : ℤ
  ay = a.y -ℤ p.y

  abbrev dx : ℤ
  dx = b.x -ℤ a.x

  abbrev h : ℤ
  h = b.y -ℤ a.y

  abbrev ex : ℤ
  ex = q.x -ℤ a.x

  abbrev k : ℤ
  k = q.y -ℤ a.y

  abbrev P : ℤ → ℤ → Poly
  P u v = Sub (V u) (V v)

  whole_is : cross_of p a b ≡ ax *ℤ h -ℤ ay *ℤ dx
  whole_is = ring (Sub (Mul (P a.x p.x) (P b.y p.y)) (Mul (P a.y p.y) (P b.x p.x))) (Sub (Mul (P a.x p.x) (P b.y a.y)) (Mul (P a.y p.y) (P b.x a.x))) (omega arith)

  first_is : cross_of p a q ≡ ax *ℤ k -ℤ ay *ℤ ex
  first_is = ring (Sub (Mul (P a.x p.x) (P q.y p.y)) (Mul (P a.y p.y) (P q.x p.x))) (Sub (Mul (P a.x p.x) (P q.y a.y)) (Mul (P a.y p.y) (P q.x a.x))) (omega arith)

  parts : cross_of p q b ≡ (cross_of p a b -ℤ cross_of p a q) -ℤ cross_of a b q
  parts = ring
      (Sub (Mul (P q.x p.x) (P b.y p.y)) (Mul (P q.y p.y) (P b.x p.x)))
      (Sub (Sub (Sub (Mul (P a.x p.x) (P b.y p.y)) (Mul (P a.y p.y) (P b.x p.x))) (Sub (Mul (P a.x p.x) (P q.y p.y)) (Mul (P a.y p.y) (P q.x p.x)))) (Sub (Mul (P b.x a.x) (P q.y a.y)) (Mul (P b.y a.y) (P q.x a.x))))
      (omega arith)

  second_is : cross_of p q b ≡ (ax *ℤ h -ℤ ay *ℤ dx) -ℤ (ax *ℤ k -ℤ ay *ℤ ex)
  second_is = omega (arith, ints, parts, line, whole_is, first_is)

  -- each part has its share of the cross product of the whole
  first_share : h *ℤ cross_of p a q ≡ k *ℤ cross_of p a b
  first_share = ap (λ z. h *ℤ z) first_is ∙ first_part ax ay dx h ex k line ∙ ap (λ z. k *ℤ z) (sym whole_is)

  second_share : h *ℤ cross_of p q b ≡ (h -ℤ k) *ℤ cross_of p a b
  second_share = ap (λ z. h *ℤ z) second_is ∙ second_part ax ay dx h ex k line ∙ ap (λ z. (h -ℤ k) *ℤ z) (sym whole_is)

cut_points : (a b q p : Point) → cross_of a b q ≡ pos 0 → IsTrue (is_between a.y b.y q.y) → turn_of (seg a q) p +ℤ turn_of (seg q b) p ≡ turn_of (seg a b) p
cut_points a b q p line high =
    by_lt_z a.y b.y rises (λ l. by_lt_z b.y a.y falls (λ m. flat (omega (arith, ints))))
  where
    rises : a.y <ℤ b.y → turn_of (seg a q) p +ℤ turn_of (seg q b) p ≡ turn_of (seg a b) p
    rises l =
        let m = (between a.y b.y q.y high).0 (omega (arith, ints)) in
        let first : a.y <ℤ q.y → SameSign (cross_of p a q) (cross_of p a b) = λ n. same_sign (b.y -ℤ a.y) (q.y -ℤ a.y) (cross_of p a q) (cross_of p a b) (omega (arith, ints)) (omega (arith, ints)) (first_share a b q p line) in
        let second : q.y <ℤ b.y → SameSign (cross_of p q b) (cross_of p a b) = λ n. same_sign (b.y -ℤ a.y) ((b.y -ℤ a.y) -ℤ (q.y -ℤ a.y)) (cross_of p q b) (cross_of p a b) (omega (arith, ints)) (omega (arith, ints)) (second_share a b q p line) in
        add_up (int_lt (pos 0) (cross_of p a b)) (above p.y a.y) (above p.y q.y) (above p.y b.y) _ _ _
        (passes_up p.y a.y q.y (cross_of p a b) (cross_of p a q) m.0 (λ n. (first n).positive) (λ n. (first n).not_positive))
        (passes_up p.y q.y b.y (cross_of p a b) (cross_of p q b) m.1 (λ n. (second n).positive) (λ n. (second n).not_positive))
        (passes_up p.y a.y b.y (cross_of p a b) (cross_of p a b) (omega (arith, ints)) (λ n x. x) (λ n x. x))

    falls : b.y <ℤ a.y → turn_of (seg a q) p +ℤ turn_of (seg q b) p ≡ turn_of (seg a b) p
    falls l =
        let m = (between a.y b.y q.y high).1 (omega (arith, ints)) in
        let first : q.y <ℤ a.y → SameSign (cross_of p a q) (cross_of p a b) = λ n. same_sign (neg_ℤ (b.y -ℤ a.y)) (neg_ℤ (q.y -ℤ a.y)) (cross_of p a q) (cross_of p a b) (omega (arith, ints)) (omega (arith, ints)) (opposite (b.y -ℤ a.y) (cross_of p a q) (q.y -ℤ a.y) (cross_of p a b) (first_share a b q p line)) in
        let second : b.y <ℤ q.y → SameSign (cross_of p q b) (cross_of p a b) = λ n. same_sign (neg_ℤ (b.y -ℤ a.y)) (neg_ℤ ((b.y -ℤ a.y) -ℤ (q.y -ℤ a.y))) (cross_of p q b) (cross_of p a b) (omega (arith, ints)) (omega (arith, ints)) (opposite (b.y -ℤ a.y) (cross_of p q b) ((b.y -ℤ a.y) -ℤ (q.y -ℤ a.y)) (cross_of p a b) (second_share a b q p line)) in
        add_up (int_lt (cross_of p a b) (pos 0)) (above p.y a.y) (above p.y q.y) (above p.y b.y) _ _ _
        (passes_down p.y a.y q.y (cross_of p a b) (cross_of p a q) m.1 (λ n. (first n).negative) (λ n. (first n).not_negative))
        (passes_down p.y q.y b.y (cross_of p a b) (cross_of p q b) m.0 (λ n. (second n).negative) (λ n. (second n).not_negative))
        (passes_down p.y a.y b.y (cross_of p a b) (cross_of p a b) (omega (arith, ints)) (λ n x. x) (λ n x. x))

    flat : a.y ≡ b.y → turn_of (seg a q) p +ℤ turn_of (seg q b) p ≡ turn_of (seg a b) p
    flat e =
        let m = (between a.y b.y q.y high).0 (omega (arith, ints)) in
        let x = passes_level p.y a.y q.y (cross_of p a q) (omega (arith, ints)) in
        let y = passes_level p.y q.y b.y (cross_of p q b) (omega (arith, ints)) in
        let z = passes_level p.y a.y b.y (cross_of p a b) e in
        omega (arith, ints, x, y, z)

pub cut_at_point : (s : Seg) (q p : Point) → IsOn s q → turn_of (seg s.a q) p +ℤ turn_of (seg q s.b) p ≡ turn_of s p
cut_at_point s q p h = cut_points s.a s.b q p h.line h.high

along : (p a b : Point) (qs : List Point) → IsAlong a qs b → count p (joins (a ∷ (qs ++ b ∷ []))) ≡ turn_of (seg a b) p
along p a b [] h = omega (arith, ints)
along p a b (q ∷ qs) h = omega (arith, ints, along p q b qs h.1, cut_at_point (seg a b) q p h.0)

pub cut_at_points : (a b : Point) (qs : List Point) (p : Point) → IsAlong a qs b → winding_number (joins (a ∷ (qs ++ b ∷ []))) p ≡ turn_of (seg a b) p
cut_at_points a b qs p h = count_is (joins (a ∷ (qs ++ b ∷ []))) p ∙ along p a b qs h

-- ---- equal steps

ordered : (a b c : ℤ) → ((a ≤ℤ c) × (c ≤ℤ b)) ⊎ ((b ≤ℤ c) × (c ≤ℤ a)) → IsTrue (is_between a b c)
ordered a b c h = ⊎_elim (λ u. up u.0 u.1) (λ u. dn u.0 u.1) h
  where
    up : a ≤ℤ c → c ≤ℤ b → IsTrue (is_between a b c)
    up l m = grind (arith, ints)

    dn : b ≤ℤ c → c ≤ℤ a → IsTrue (is_between a b c)
    dn l m = grind (arith, ints)

step_between : (w e a b c : ℤ) → a ≤ℤ b → b ≤ℤ c → IsTrue (is_between (w +ℤ a *ℤ e) (w +ℤ c *ℤ e) (w +ℤ b *ℤ e))
step_between w e a b c l m =
    let x : b *ℤ e ≡ a *ℤ e +ℤ (b -ℤ a) *ℤ e = ring (Mul (V b) (V e)) (Add (Mul (V a) (V e)) (Mul (Sub (V b) (V a)) (V e))) (omega arith) in
    let y : c *ℤ e ≡ b *ℤ e +ℤ (c -ℤ b) *ℤ e = ring (Mul (V c) (V e)) (Add (Mul (V b) (V e)) (Mul (Sub (V c) (V b)) (V e))) (omega arith) in
    ordered (w +ℤ a *ℤ e) (w +ℤ c *ℤ e) (w +ℤ b *ℤ e) (by_lt_z e (pos 0)
    (λ h. inr (omega (arith, ints, x, y, mul_nonpos (c -ℤ b) e (omega (arith, ints)) (omega (arith, ints))), omega (arith, ints, x, mul_nonpos (b -ℤ a) e (omega (arith, ints)) (omega (arith, ints)))))
    (λ h. inl (omega (arith, ints, x, mul_nonneg (b -ℤ a) e (omega (arith, ints)) h), omega (arith, ints, y, mul_nonneg (c -ℤ b) e (omega (arith, ints)) h))))

step_on : (w : Point) (e : Vector) (a b c : ℤ) → a ≤ℤ b → b ≤ℤ c → IsOn (seg (at w e a) (at w e c)) (at w e b)
step_on w e a b c l m =
    let X = λ (t : ℤ). Add (V w.x) (Mul (V t) (V e.x)) in
    let Y = λ (t : ℤ). Add (V w.y) (Mul (V t) (V e.y)) in
    record {
      line = ring (Sub (Mul (Sub (X c) (X a)) (Sub (Y b) (Y a))) (Mul (Sub (Y c) (Y a)) (Sub (X b) (X a)))) (V (pos 0)) (omega arith);
      wide = step_between w.x e.x a b c l m;
      high = step_between w.y e.y a b c l m;
    }

to_last : (a b : ℤ) (ts : List ℤ) → Rises a ts b → a ≤ℤ b
to_last a b [] h = h
to_last a b (t ∷ ts) h = omega (arith, ints, h.0, to_last t b ts h.1)

pub steps_along : (w : Point) (e : Vector) (a b : ℤ) (ts : List ℤ) → Rises a ts b → IsAlong (at w e a) (map (at w e) ts) (at w e b)
steps_along w e a b [] h = tt
steps_along w e a b (t ∷ ts) h = (step_on w e a t b h.0 (to_last t b ts h.1), steps_along w e t b ts h.1)
