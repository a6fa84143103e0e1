-- Where a segment passes a point's height east of it.
use Rattle.std.proofs.Common.{◌≡◌, ℤ, pos, ◌-ℤ◌, ◌*ℤ◌, neg_ℤ, ◌≤ℤ◌, ◌<ℤ◌, int_le, int_lt, Bool, true, false, ◌&&◌, ◌||◌, IsTrue, ◌↔◌, refl, ap, sym, ◌∙◌, subst, arith, ◌⊎◌, inl, inr, ⊎_elim}
use Rattle.std.proofs.lemmas.Int.{ints}
use Rattle.plane_geom.specs.Geom.{cross_of, passes}
use Rattle.plane_geom.specs.declared.Point.{Point}
use Rattle.plane_geom.specs.declared.Seg.{Seg}
use Rattle.plane_laws.specs.CountLaws.{MeetsEast}
use Rattle.plane_laws.proofs.Algebra.{ring, V, Sub, Mul, Neg, mul_pos, pos_from_mul}

-- what passes runs down past the height with a negative cross product, or up with a positive one
abbrev Passing : ℤ → ℤ → ℤ → ℤ → Type 0
Passing h y z x = ((z ≤ℤ h) × (h <ℤ y) × (x <ℤ pos 0)) ⊎ ((y ≤ℤ h) × (h <ℤ z) × (pos 0 <ℤ x))

from_test : (h y z x : ℤ) → IsTrue ((int_le z h && int_lt h y && int_lt x (pos 0)) || (int_le y h && int_lt h z && int_lt (pos 0) x)) → Passing h y z x
from_test h y z x t = either (int_le z h && int_lt h y && int_lt x (pos 0)) refl t
  where
    either : (b : Bool) → (int_le z h && int_lt h y && int_lt x (pos 0)) ≡ b → IsTrue (b || (int_le y h && int_lt h z && int_lt (pos 0) x)) → Passing h y z x
    either true e t = inl (grind (arith, ints), grind (arith, ints), grind (arith, ints))
    either false e t = inr (grind (arith, ints), grind (arith, ints), grind (arith, ints))

to_test : (h y z x : ℤ) → Passing h y z x → IsTrue ((int_le z h && int_lt h y && int_lt x (pos 0)) || (int_le y h && int_lt h z && int_lt (pos 0) x))
to_test h y z x p = ⊎_elim (λ f. falls f.0 f.1 f.2) (λ r. rises r.0 r.1 r.2) p
  where
    falls : z ≤ℤ h → h <ℤ y → x <ℤ pos 0 → IsTrue ((int_le z h && int_lt h y && int_lt x (pos 0)) || (int_le y h && int_lt h z && int_lt (pos 0) x))
    falls a b c = grind (arith, ints)

    rises : y ≤ℤ h → h <ℤ z → pos 0 <ℤ x → IsTrue ((int_le z h && int_lt h y && int_lt x (pos 0)) || (int_le y h && int_lt h z && int_lt (pos 0) x))
    rises a b c = grind (arith, ints)

module _ (s : Seg) (p : Point) where
  abbrev h : ℤ
  h = s.b.y -ℤ s.a.y

  abbrev k : ℤ
  k = p.y -ℤ s.a.y

  abbrev dx : ℤ
  dx = s.b.x -ℤ s.a.x

  abbrev m : ℤ
  m = p.x -ℤ s.a.x

  cross_is : cross_of p s.a s.b ≡ k *ℤ dx -ℤ h *ℤ m
  cross_is = ring
      (Sub (Mul (Sub (V s.a.x) (V p.x)) (Sub (V s.b.y) (V p.y))) (Mul (Sub (V s.a.y) (V p.y)) (Sub (V s.b.x) (V p.x))))
      (Sub (Mul (Sub (V p.y) (V s.a.y)) (Sub (V s.b.x) (V s.a.x))) (Mul (Sub (V s.b.y) (V s.a.y)) (Sub (V p.x) (V s.a.x))))
      (omega arith)

  meets : Passing p.y s.a.y s.b.y (cross_of p s.a s.b) → MeetsEast s p
  meets q = ⊎_elim
      (λ f.
      let a : neg_ℤ h *ℤ m ≡ neg_ℤ (h *ℤ m) = ring (Mul (Neg (V h)) (V m)) (Neg (Mul (V h) (V m))) (omega arith) in
      let b : neg_ℤ k *ℤ dx ≡ neg_ℤ (k *ℤ dx) = ring (Mul (Neg (V k)) (V dx)) (Neg (Mul (V k) (V dx))) (omega arith) in
      record {
        reaches = inr (f.0, f.1);
        t = neg_ℤ k;
        d = neg_ℤ h;
        positive = omega (arith, ints, f.0, f.1);
        level = ring (Mul (Neg (V h)) (V k)) (Mul (Neg (V k)) (V h)) (omega arith);
        east = omega (arith, ints, a, b, f.2, cross_is);
      })
      (λ r. record {
        reaches = inl (r.0, r.1);
        t = k;
        d = h;
        positive = omega (arith, ints, r.0, r.1);
        level = ring (Mul (V h) (V k)) (Mul (V k) (V h)) (omega arith);
        east = omega (arith, ints, r.2, cross_is);
      })
      q

  -- d times the cross product is the height times how far east the point of the segment lies
  scaled : (t d : ℤ) → d *ℤ k ≡ t *ℤ h → d *ℤ cross_of p s.a s.b ≡ h *ℤ (t *ℤ dx -ℤ d *ℤ m)
  scaled t d e =
      let a : d *ℤ (k *ℤ dx -ℤ h *ℤ m) ≡ (d *ℤ k) *ℤ dx -ℤ h *ℤ (d *ℤ m) = ring (Mul (V d) (Sub (Mul (V k) (V dx)) (Mul (V h) (V m)))) (Sub (Mul (Mul (V d) (V k)) (V dx)) (Mul (V h) (Mul (V d) (V m)))) (omega arith) in
      let b : (t *ℤ h) *ℤ dx -ℤ h *ℤ (d *ℤ m) ≡ h *ℤ (t *ℤ dx -ℤ d *ℤ m) = ring (Sub (Mul (Mul (V t) (V h)) (V dx)) (Mul (V h) (Mul (V d) (V m)))) (Mul (V h) (Sub (Mul (V t) (V dx)) (Mul (V d) (V m)))) (omega arith) in
      ap (λ z. d *ℤ z) cross_is ∙ a ∙ ap (λ z. z *ℤ dx -ℤ h *ℤ (d *ℤ m)) e ∙ b

  passing : MeetsEast s p → Passing p.y s.a.y s.b.y (cross_of p s.a s.b)
  passing q =
      let far : pos 0 <ℤ (q.t *ℤ dx -ℤ q.d *ℤ m) = omega (arith, ints, q.east) in
      let c = scaled q.t q.d q.level in
      ⊎_elim
      (λ r. inr (r.0, r.1, pos_from_mul q.d (cross_of p s.a s.b) (omega (arith, ints, q.positive)) (subst (λ z. pos 0 <ℤ z) (sym c) (mul_pos h (q.t *ℤ dx -ℤ q.d *ℤ m) (omega (arith, ints, r.0, r.1)) far))))
      (λ f.
      let up = mul_pos (neg_ℤ h) (q.t *ℤ dx -ℤ q.d *ℤ m) (omega (arith, ints, f.0, f.1)) far in
      let a : neg_ℤ h *ℤ (q.t *ℤ dx -ℤ q.d *ℤ m) ≡ neg_ℤ (h *ℤ (q.t *ℤ dx -ℤ q.d *ℤ m)) = ring (Mul (Neg (V h)) (V (q.t *ℤ dx -ℤ q.d *ℤ m))) (Neg (Mul (V h) (V (q.t *ℤ dx -ℤ q.d *ℤ m)))) (omega arith) in
      let b : q.d *ℤ neg_ℤ (cross_of p s.a s.b) ≡ neg_ℤ (q.d *ℤ cross_of p s.a s.b) = ring (Mul (V q.d) (Neg (V (cross_of p s.a s.b)))) (Neg (Mul (V q.d) (V (cross_of p s.a s.b)))) (omega arith) in
      let z = pos_from_mul q.d (neg_ℤ (cross_of p s.a s.b)) (omega (arith, ints, q.positive)) (omega (arith, ints, up, a, b, c)) in
      inl (f.0, f.1, omega (arith, ints, z)))
      q.reaches

pub passes_where_met : (s : Seg) (p : Point) → IsTrue (passes s p) ↔ MeetsEast s p
passes_where_met s p = (
  λ t. meets s p (from_test p.y s.a.y s.b.y (cross_of p s.a s.b) t),
  λ q. to_test p.y s.a.y s.b.y (cross_of p s.a s.b) (passing s p q),
)
