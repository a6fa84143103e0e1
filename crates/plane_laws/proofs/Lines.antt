-- The sides of a line.
use Rattle.std.proofs.Common.{◌≡◌, ℤ, pos, ◌+ℤ◌, ◌-ℤ◌, ◌*ℤ◌, neg_ℤ, IsTrue, ap, ◌∙◌, arith}
use Rattle.std.proofs.lemmas.Int.{ints}
use Rattle.plane_geom.specs.Geom.{cross_of, is_between, IsOn}
use Rattle.plane_geom.specs.Segments.{turned}
use Rattle.plane_geom.specs.declared.Point.{Point}
use Rattle.plane_geom.specs.declared.Seg.{Seg}
use Rattle.plane_laws.specs.Outlines.{Vector, at}
use Rattle.plane_laws.proofs.Algebra.{ring, Poly, V, Add, Sub, Mul, Neg}

abbrev pub cross_of_poly : Point → Point → Point → Poly
cross_of_poly a b c = Sub (Mul (Sub (V b.x) (V a.x)) (Sub (V c.y) (V a.y))) (Mul (Sub (V b.y) (V a.y)) (Sub (V c.x) (V a.x)))

pub side_back : (a b c : Point) → cross_of b a c ≡ neg_ℤ (cross_of a b c)
side_back a b c = ring (cross_of_poly b a c) (Neg (cross_of_poly a b c)) (omega arith)

pub side_round : (a b c : Point) → cross_of b c a ≡ cross_of a b c
side_round a b c = ring (cross_of_poly b c a) (cross_of_poly a b c) (omega arith)

pub side_changes_evenly : (a b w : Point) (e : Vector) (u n : ℤ) → n *ℤ cross_of a b (at w e u) ≡ (n -ℤ u) *ℤ cross_of a b w +ℤ u *ℤ cross_of a b (at w e n)
side_changes_evenly a b w e u n =
    let dx = Sub (V b.x) (V a.x) in
    let dy = Sub (V b.y) (V a.y) in
    let cx = λ (t : Poly). Sub (Add (V w.x) (Mul t (V e.x))) (V a.x) in
    let cy = λ (t : Poly). Sub (Add (V w.y) (Mul t (V e.y))) (V a.y) in
    let P : Poly = Mul (V n) (Sub (Mul dx (cy (V u))) (Mul dy (cx (V u)))) in
    let Q : Poly = Add (Mul (Sub (V n) (V u)) (Sub (Mul dx (Sub (V w.y) (V a.y))) (Mul dy (Sub (V w.x) (V a.x))))) (Mul (V u) (Sub (Mul dx (cy (V n))) (Mul dy (cx (V n))))) in
    ring P Q (omega arith)

between_turned : (a b c : ℤ) → IsTrue (is_between a b c) → IsTrue (is_between b a c)
between_turned a b c h = grind (arith, ints)

pub on_turned : (s : Seg) (p : Point) → IsOn s p → IsOn (turned s) p
on_turned s p h =
    let line : cross_of s.b s.a p ≡ pos 0 = side_back s.a s.b p ∙ ap neg_ℤ h.line in
    record { line = line; wide = between_turned s.a.x s.b.x p.x h.wide; high = between_turned s.a.y s.b.y p.y h.high }
