-- Segments on one straight line.
use Rattle.std.proofs.Common.{◌≡◌, ℤ, pos, ◌+ℤ◌, ◌-ℤ◌, ◌*ℤ◌, neg_ℤ, ◌<ℤ◌, ap, sym, ◌∙◌, arith}
use Rattle.std.proofs.lemmas.Int.{ints, by_lt_z}
use Rattle.mesh_lines_laws.proofs.Segments.{NotLeft, times_none}
use Rattle.plane_geom.specs.Geom.{cross_of}
use Rattle.plane_geom.specs.declared.Point.{Point}
use Rattle.plane_laws.proofs.Algebra.{Add, Mul, Neg, Poly, Sub, V, mul_neg, mul_nonpos, ring}
use Rattle.plane_strips.proofs.Means.{zero_from_mul}

-- the side of a line changes evenly along a segment, by height
by_height : (a b u v p : Point) → (v.y -ℤ u.y) *ℤ cross_of a b p ≡ ((v.y -ℤ p.y) *ℤ cross_of a b u +ℤ (p.y -ℤ u.y) *ℤ cross_of a b v) +ℤ (b.y -ℤ a.y) *ℤ cross_of u v p
by_height a b u v p =
    let ex : Poly = V (b.x -ℤ a.x) in
    let ey : Poly = V (b.y -ℤ a.y) in
    let side = λ (z : Point). Sub (Mul ex (Sub (V z.y) (V a.y))) (Mul ey (Sub (V z.x) (V a.x))) in
    let line : Poly = Sub (Mul (Sub (V v.x) (V u.x)) (Sub (V p.y) (V u.y))) (Mul (Sub (V v.y) (V u.y)) (Sub (V p.x) (V u.x))) in
    ring (Mul (Sub (V v.y) (V u.y)) (side p)) (Add (Add (Mul (Sub (V v.y) (V p.y)) (side u)) (Mul (Sub (V p.y) (V u.y)) (side v))) (Mul ey line)) (omega arith)

-- a line that has no end of a rising segment on its left, and a point of it strictly between its heights on itself, has both ends on itself
pub aligned : (a b u v p : Point) → u.y <ℤ p.y → p.y <ℤ v.y → cross_of u v p ≡ pos 0 → cross_of a b p ≡ pos 0 → NotLeft a b u → NotLeft a b v → (cross_of a b u ≡ pos 0) × (cross_of a b v ≡ pos 0)
aligned a b u v p l m e g hu hv =
    let k = by_height a b u v p in
    let i = times_none (v.y -ℤ u.y) (cross_of a b p) g in
    let j = times_none (b.y -ℤ a.y) (cross_of u v p) e in
    let x = mul_nonpos (v.y -ℤ p.y) (cross_of a b u) (omega (arith, ints, m)) hu in
    let y = mul_nonpos (p.y -ℤ u.y) (cross_of a b v) (omega (arith, ints, l)) hv in (
      zero_from_mul (v.y -ℤ p.y) (cross_of a b u) (omega (arith, ints, m)) (omega (arith, ints, k, i, j, x, y)),
      zero_from_mul (p.y -ℤ u.y) (cross_of a b v) (omega (arith, ints, l)) (omega (arith, ints, k, i, j, x, y)),
    )

-- how far apart two points are, by their sides of a line
between_sides : (a b u z : Point) → cross_of a b z -ℤ cross_of a b u ≡ (b.x -ℤ a.x) *ℤ (z.y -ℤ u.y) -ℤ (b.y -ℤ a.y) *ℤ (z.x -ℤ u.x)
between_sides a b u z =
    let ex : Poly = V (b.x -ℤ a.x) in
    let ey : Poly = V (b.y -ℤ a.y) in
    let side = λ (w : Point). Sub (Mul ex (Sub (V w.y) (V a.y))) (Mul ey (Sub (V w.x) (V a.x))) in
    ring (Sub (side z) (side u)) (Sub (Mul ex (Sub (V z.y) (V u.y))) (Mul ey (Sub (V z.x) (V u.x)))) (omega arith)

turned_about : (ex ey dx dy wx wy : ℤ) → ey *ℤ (dx *ℤ wy -ℤ dy *ℤ wx) +ℤ (ex *ℤ dy -ℤ ey *ℤ dx) *ℤ wy ≡ dy *ℤ (ex *ℤ wy -ℤ ey *ℤ wx)
turned_about ex ey dx dy wx wy = ring
    (Add (Mul (V ey) (Sub (Mul (V dx) (V wy)) (Mul (V dy) (V wx)))) (Mul (Sub (Mul (V ex) (V dy)) (Mul (V ey) (V dx))) (V wy)))
    (Mul (V dy) (Sub (Mul (V ex) (V wy)) (Mul (V ey) (V wx))))
    (omega arith)

parallel : (a b u v z : Point) → (b.y -ℤ a.y) *ℤ cross_of u v z +ℤ (cross_of a b v -ℤ cross_of a b u) *ℤ (z.y -ℤ u.y) ≡ (v.y -ℤ u.y) *ℤ (cross_of a b z -ℤ cross_of a b u)
parallel a b u v z =
    ap (λ t. (b.y -ℤ a.y) *ℤ cross_of u v z +ℤ t *ℤ (z.y -ℤ u.y)) (between_sides a b u v)
    ∙ (turned_about (b.x -ℤ a.x) (b.y -ℤ a.y) (v.x -ℤ u.x) (v.y -ℤ u.y) (z.x -ℤ u.x) (z.y -ℤ u.y)
    ∙ sym (ap (λ t. (v.y -ℤ u.y) *ℤ t) (between_sides a b u z)))

none_times : (x y : ℤ) → x ≡ pos 0 → x *ℤ y ≡ pos 0
none_times x y e = let k = times_none y x e in let g : x *ℤ y ≡ y *ℤ x = ring (Mul (V x) (V y)) (Mul (V y) (V x)) (omega arith) in omega (arith, ints, k, g)

-- two segments on one line have all points on sides that go with how far they rise
pub one_line_sides : (a b u v z : Point) → cross_of a b u ≡ pos 0 → cross_of a b v ≡ pos 0 → (b.y -ℤ a.y) *ℤ cross_of u v z ≡ (v.y -ℤ u.y) *ℤ cross_of a b z
one_line_sides a b u v z e g =
    let k = parallel a b u v z in
    let i = none_times (cross_of a b v -ℤ cross_of a b u) (z.y -ℤ u.y) (omega (arith, ints, e, g)) in
    let j = times_none (v.y -ℤ u.y) (cross_of a b u) e in
    let d : (v.y -ℤ u.y) *ℤ (cross_of a b z -ℤ cross_of a b u) ≡ (v.y -ℤ u.y) *ℤ cross_of a b z -ℤ (v.y -ℤ u.y) *ℤ cross_of a b u = ring (Mul (V (v.y -ℤ u.y)) (Sub (V (cross_of a b z)) (V (cross_of a b u)))) (Sub (Mul (V (v.y -ℤ u.y)) (V (cross_of a b z))) (Mul (V (v.y -ℤ u.y)) (V (cross_of a b u)))) (omega arith) in
    omega (arith, ints, k, i, j, d)

less_times : (x y z : ℤ) → (x -ℤ y) *ℤ z ≡ neg_ℤ ((y -ℤ x) *ℤ z)
less_times x y z = ring (Mul (Sub (V x) (V y)) (V z)) (Neg (Mul (Sub (V y) (V x)) (V z))) (omega arith)

-- a point that is left of neither of two segments on one line, one that falls and one that rises, is on the line of the one that rises
pub on_both : (a b u v z : Point) → b.y <ℤ a.y → u.y <ℤ v.y → cross_of a b u ≡ pos 0 → cross_of a b v ≡ pos 0 → NotLeft a b z → NotLeft u v z → (cross_of a b z ≡ pos 0) × (cross_of u v z ≡ pos 0)
on_both a b u v z falls rises e g ha hu =
    let k = one_line_sides a b u v z e g in
    let x = mul_nonpos (a.y -ℤ b.y) (cross_of u v z) (omega (arith, ints, falls)) hu in
    let y = mul_nonpos (v.y -ℤ u.y) (cross_of a b z) (omega (arith, ints, rises)) ha in
    let n = less_times b.y a.y (cross_of u v z) in (
      zero_from_mul (v.y -ℤ u.y) (cross_of a b z) (omega (arith, ints, rises)) (omega (arith, ints, k, x, y, n)),
      zero_from_mul (a.y -ℤ b.y) (cross_of u v z) (omega (arith, ints, falls)) (omega (arith, ints, k, x, y, n)),
    )

-- two segments on one line, of which the first falls: an end of the first is on the line of the second
pub back_on : (a b u v z : Point) → b.y <ℤ a.y → cross_of a b u ≡ pos 0 → cross_of a b v ≡ pos 0 → cross_of a b z ≡ pos 0 → cross_of u v z ≡ pos 0
back_on a b u v z falls e g h =
    let k = one_line_sides a b u v z e g in
    let i = times_none (v.y -ℤ u.y) (cross_of a b z) h in
    let n = less_times b.y a.y (cross_of u v z) in
    zero_from_mul (a.y -ℤ b.y) (cross_of u v z) (omega (arith, ints, falls)) (omega (arith, ints, k, i, n))

-- so where it rises
pub ahead_on : (a b u v z : Point) → a.y <ℤ b.y → cross_of a b u ≡ pos 0 → cross_of a b v ≡ pos 0 → cross_of a b z ≡ pos 0 → cross_of u v z ≡ pos 0
ahead_on a b u v z rises e g h =
    let k = one_line_sides a b u v z e g in
    let i = times_none (v.y -ℤ u.y) (cross_of a b z) h in
    zero_from_mul (b.y -ℤ a.y) (cross_of u v z) (omega (arith, ints, rises)) (omega (arith, ints, k, i))

-- of a line with a point strictly on its right, a part that rises has the point strictly on its right too
pub part_strict : (a b u v z : Point) → u.y <ℤ v.y → cross_of a b u ≡ pos 0 → cross_of a b v ≡ pos 0 → cross_of a b z <ℤ pos 0 → NotLeft u v z → cross_of u v z <ℤ pos 0
part_strict a b u v z rises e g h n = by_lt_z (cross_of u v z) (pos 0)
    (λ l. l)
    (λ l.
    let k = one_line_sides a b u v z e g in
    let i = times_none (b.y -ℤ a.y) (cross_of u v z) (omega (arith, ints, l, n)) in
    let x = mul_neg (v.y -ℤ u.y) (cross_of a b z) (omega (arith, ints, rises)) h in
    absurd (omega (arith, ints, k, i, x)))
