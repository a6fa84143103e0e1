-- Places on a line, in whole steps of one length: a point between two of them is on the line.
use Rattle.std.proofs.Common.{◌≡◌, ℤ, pos, ◌+ℤ◌, ◌-ℤ◌, ◌*ℤ◌, ◌≤ℤ◌, ◌<ℤ◌, sym, ap, ap₂, ◌∙◌, arith}
use Rattle.std.proofs.Math.IntN.{*ℤ-zero}
use Rattle.std.proofs.lemmas.Int.{ints, by_lt_z}
use Rattle.plane_laws.proofs.Between.{Between, against, in_order}
use Rattle.plane_geom.specs.Geom.{cross_of, IsOn}
use Rattle.plane_geom.specs.declared.Point.{Point}
use Rattle.plane_laws.specs.Outlines.{Vector, at, seg}
use Rattle.plane_laws.proofs.Algebra.{ring, Poly, V, Add, Sub, Mul, mul_pos, mul_neg}
use Rattle.tri_mesh.proofs.Between.{inside}

-- ---- numbers between others

from_low : (a b z : ℤ) → a ≤ℤ b → Between a b z → (a ≤ℤ z) × (z ≤ℤ b)
from_low a b z l h = inside a b a b z h (omega (arith, ints)) l l (omega (arith, ints))

from_high : (a b z : ℤ) → b ≤ℤ a → Between a b z → (b ≤ℤ z) × (z ≤ℤ a)
from_high a b z l h = inside b a a b z h l (omega (arith, ints)) (omega (arith, ints)) l

same_between : (a b z : ℤ) → b ≡ a → Between a b z → z ≡ a
same_between a b z e h = let o = from_low a b z (omega (arith, ints, e)) h in omega (arith, ints, e, o)

-- a number between two that lie between two others lies between these
pub within : (a b c d z : ℤ) → Between a b c → Between a b d → Between c d z → Between a b z
within a b c d z p q r = by_lt_z b a
    (λ l.
    let m : b ≤ℤ a = omega (arith, ints, l) in
    let x = from_high a b c m p in
    let y = from_high a b d m q in
    let o = inside b a c d z r x.0 x.1 y.0 y.1 in
    against a b z o.0 o.1)
    (λ m.
    let x = from_low a b c m p in
    let y = from_low a b d m q in
    let o = inside a b c d z r x.0 x.1 y.0 y.1 in
    in_order a b z o.0 o.1)

-- ---- products

none_from_mul : (t x : ℤ) → pos 0 <ℤ t → t *ℤ x ≡ pos 0 → x ≡ pos 0
none_from_mul t x h e = by_lt_z x (pos 0)
    (λ l. absurd (omega (arith, ints, e, mul_neg t x h l)))
    (λ l. by_lt_z (pos 0) x (λ m. absurd (omega (arith, ints, e, mul_pos t x h m))) (λ m. omega (arith, ints, l, m)))

pub times_none : (x y : ℤ) → y ≡ pos 0 → x *ℤ y ≡ pos 0
times_none x y e = ap (λ z. x *ℤ z) e ∙ *ℤ-zero x

-- ---- along a line

module _ (w : Point) (e : Vector) (p : Point) where
  -- how far p lies off the line
  abbrev pub off : ℤ
  off = e.x *ℤ (p.y -ℤ w.y) -ℤ e.y *ℤ (p.x -ℤ w.x)

  abbrev X : ℤ → Poly
  X t = Add (V w.x) (Mul (V t) (V e.x))

  abbrev Y : ℤ → Poly
  Y t = Add (V w.y) (Mul (V t) (V e.y))

  abbrev Off : Poly
  Off = Sub (Mul (V e.x) (Sub (V p.y) (V w.y))) (Mul (V e.y) (Sub (V p.x) (V w.x)))

  -- the side of p by how far it lies off the line
  side_along : (a b : ℤ) → cross_of (at w e a) (at w e b) p ≡ (b -ℤ a) *ℤ off
  side_along a b = ring
      (Sub (Mul (Sub (X b) (X a)) (Sub (V p.y) (Y a))) (Mul (Sub (Y b) (Y a)) (Sub (V p.x) (X a))))
      (Mul (Sub (V b) (V a)) Off)
      (omega arith)

  pub side_whole : (n : ℤ) → cross_of w (at w e n) p ≡ n *ℤ off
  side_whole n = ring
      (Sub (Mul (Sub (X n) (V w.x)) (Sub (V p.y) (V w.y))) (Mul (Sub (Y n) (V w.y)) (Sub (V p.x) (V w.x))))
      (Mul (V n) Off)
      (omega arith)

  -- a place on the line is off it by nothing
  off_at : (s : ℤ) → e.x *ℤ ((w.y +ℤ s *ℤ e.y) -ℤ w.y) -ℤ e.y *ℤ ((w.x +ℤ s *ℤ e.x) -ℤ w.x) ≡ pos 0
  off_at s = ring (Sub (Mul (V e.x) (Sub (Y s) (V w.y))) (Mul (V e.y) (Sub (X s) (V w.x)))) (V (pos 0)) (omega arith)

  -- and so is a point between two of its places
  pub off_between : (a b : ℤ) → a ≤ℤ b → IsOn (seg (at w e a) (at w e b)) p → off ≡ pos 0
  off_between a b h on = by_lt_z a b
      (λ l. none_from_mul (b -ℤ a) off (omega (arith, ints, l)) (sym (side_along a b) ∙ on.line))
      (λ l.
      let same : b ≡ a = omega (arith, ints, h, l) in
      let x = same_between (w.x +ℤ a *ℤ e.x) (w.x +ℤ b *ℤ e.x) p.x (ap (λ t. w.x +ℤ t *ℤ e.x) same) on.wide in
      let y = same_between (w.y +ℤ a *ℤ e.y) (w.y +ℤ b *ℤ e.y) p.y (ap (λ t. w.y +ℤ t *ℤ e.y) same) on.high in
      ap₂ (λ i j. e.x *ℤ (j -ℤ w.y) -ℤ e.y *ℤ (i -ℤ w.x)) x y ∙ off_at a)
