-- Points on segments: a line that has the ends not on its left has none between them there; a segment that is cut; and a chord of a corner.
use Rattle.std.proofs.Common.{◌≡◌, ◌⊎◌, ⊎_elim, inl, inr, ℤ, pos, ◌+ℤ◌, ◌-ℤ◌, ◌*ℤ◌, neg_ℤ, ◌≤ℤ◌, ◌<ℤ◌, sym, ap, ap₂, subst, ◌∙◌, arith}
use Rattle.std.proofs.lemmas.Int.{ints, by_lt_z}
use Rattle.plane_laws.proofs.Between.{Between, in_order, against, either_way, parted}
use Rattle.plane_geom.specs.Geom.{cross_of, IsOn}
use Rattle.plane_geom.specs.declared.Point.{Point}
use Rattle.plane_geom.specs.declared.Seg.{Seg}
use Rattle.plane_laws.specs.Outlines.{seg}
use Rattle.plane_laws.proofs.Algebra.{ring, Poly, V, Add, Sub, Mul, Neg, mul_nonneg, mul_pos, mul_nonpos, mul_neg, nonpos_from_mul}
use Rattle.plane_laws.proofs.Lines.{side_back}

-- not left of the line from a to b
abbrev pub NotLeft : Point → Point → Point → Type 0
NotLeft a b w = cross_of a b w ≤ℤ pos 0

-- by the product of the two distances
spread : (a b z : ℤ) → Between a b z → pos 0 ≤ℤ ((z -ℤ a) *ℤ (b -ℤ z))
spread a b z h = ⊎_elim
    (λ o. mul_nonneg (z -ℤ a) (b -ℤ z) (omega (arith, ints, o)) (omega (arith, ints, o)))
    (λ o. let e : (a -ℤ z) *ℤ (z -ℤ b) ≡ (z -ℤ a) *ℤ (b -ℤ z) = ring (Mul (Sub (V a) (V z)) (Sub (V z) (V b))) (Mul (Sub (V z) (V a)) (Sub (V b) (V z))) (omega arith) in
    subst (λ x. pos 0 ≤ℤ x) e (mul_nonneg (a -ℤ z) (z -ℤ b) (omega (arith, ints, o)) (omega (arith, ints, o))))
    (either_way a b z h)

gathered : (a b z : ℤ) → pos 0 ≤ℤ ((z -ℤ a) *ℤ (b -ℤ z)) → Between a b z
gathered a b z h = by_lt_z z a
    (λ l. by_lt_z z b
    (λ m. let e : (a -ℤ z) *ℤ (b -ℤ z) ≡ neg_ℤ ((z -ℤ a) *ℤ (b -ℤ z)) = ring (Mul (Sub (V a) (V z)) (Sub (V b) (V z))) (Neg (Mul (Sub (V z) (V a)) (Sub (V b) (V z)))) (omega arith) in
    absurd (omega (arith, ints, h, e, mul_pos (a -ℤ z) (b -ℤ z) (omega (arith, ints, l)) (omega (arith, ints, m)))))
    (λ m. against a b z m (omega (arith, ints, l))))
    (λ l. by_lt_z b z
    (λ m. by_lt_z a z
    (λ n. absurd (omega (arith, ints, h, mul_neg (z -ℤ a) (b -ℤ z) (omega (arith, ints, n)) (omega (arith, ints, m)))))
    (λ n. against a b z (omega (arith, ints, m)) n))
    (λ m. in_order a b z l m))

-- ---- a line and a segment

-- the side of a line changes evenly along a segment, by one coordinate
by_width : (a b u v p : Point) → (v.x -ℤ u.x) *ℤ cross_of a b p ≡ ((v.x -ℤ p.x) *ℤ cross_of a b u +ℤ (p.x -ℤ u.x) *ℤ cross_of a b v) +ℤ (b.x -ℤ a.x) *ℤ cross_of u v p
by_width a b u v p =
    let ex : Poly = V (b.x -ℤ a.x) in
    let ey : Poly = V (b.y -ℤ a.y) in
    let side = λ (z : Point). Sub (Mul ex (Sub (V z.y) (V a.y))) (Mul ey (Sub (V z.x) (V a.x))) in
    let line : Poly = Sub (Mul (Sub (V v.x) (V u.x)) (Sub (V p.y) (V u.y))) (Mul (Sub (V v.y) (V u.y)) (Sub (V p.x) (V u.x))) in
    ring (Mul (Sub (V v.x) (V u.x)) (side p)) (Add (Add (Mul (Sub (V v.x) (V p.x)) (side u)) (Mul (Sub (V p.x) (V u.x)) (side v))) (Mul ex line)) (omega arith)

by_height : (a b u v p : Point) → (v.y -ℤ u.y) *ℤ cross_of a b p ≡ ((v.y -ℤ p.y) *ℤ cross_of a b u +ℤ (p.y -ℤ u.y) *ℤ cross_of a b v) +ℤ (b.y -ℤ a.y) *ℤ cross_of u v p
by_height a b u v p =
    let ex : Poly = V (b.x -ℤ a.x) in
    let ey : Poly = V (b.y -ℤ a.y) in
    let side = λ (z : Point). Sub (Mul ex (Sub (V z.y) (V a.y))) (Mul ey (Sub (V z.x) (V a.x))) in
    let line : Poly = Sub (Mul (Sub (V v.x) (V u.x)) (Sub (V p.y) (V u.y))) (Mul (Sub (V v.y) (V u.y)) (Sub (V p.x) (V u.x))) in
    ring (Mul (Sub (V v.y) (V u.y)) (side p)) (Add (Add (Mul (Sub (V v.y) (V p.y)) (side u)) (Mul (Sub (V p.y) (V u.y)) (side v))) (Mul ey line)) (omega arith)

pub times_none : (x y : ℤ) → y ≡ pos 0 → x *ℤ y ≡ pos 0
times_none x y e = ap (λ z. x *ℤ z) e ∙ ring (Mul (V x) (V (pos 0))) (V (pos 0)) (omega arith)

-- a number between two of which the mean isn't above 0 although it is itself is no place but theirs
no_place : (a z b ga gb gp : ℤ) → Between a b z → (b -ℤ a) *ℤ gp ≡ (b -ℤ z) *ℤ ga +ℤ (z -ℤ a) *ℤ gb → ga ≤ℤ pos 0 → gb ≤ℤ pos 0 → pos 0 <ℤ gp → z ≡ a
no_place a z b ga gb gp h e p q r = ⊎_elim
    (λ o.
    let x = mul_nonpos (b -ℤ z) ga (omega (arith, ints, o)) p in
    let y = mul_nonpos (z -ℤ a) gb (omega (arith, ints, o)) q in
    by_lt_z a b (λ l. absurd (omega (arith, ints, e, x, y, mul_pos (b -ℤ a) gp (omega (arith, ints, l)) r))) (λ l. omega (arith, ints, o, l)))
    (λ o.
    let x = mul_nonpos (z -ℤ b) ga (omega (arith, ints, o)) p in
    let y = mul_nonpos (a -ℤ z) gb (omega (arith, ints, o)) q in
    let i : (z -ℤ b) *ℤ ga ≡ neg_ℤ ((b -ℤ z) *ℤ ga) = ring (Mul (Sub (V z) (V b)) (V ga)) (Neg (Mul (Sub (V b) (V z)) (V ga))) (omega arith) in
    let j : (a -ℤ z) *ℤ gb ≡ neg_ℤ ((z -ℤ a) *ℤ gb) = ring (Mul (Sub (V a) (V z)) (V gb)) (Neg (Mul (Sub (V z) (V a)) (V gb))) (omega arith) in
    let k : (a -ℤ b) *ℤ gp ≡ neg_ℤ ((b -ℤ a) *ℤ gp) = ring (Mul (Sub (V a) (V b)) (V gp)) (Neg (Mul (Sub (V b) (V a)) (V gp))) (omega arith) in
    by_lt_z b a (λ l. absurd (omega (arith, ints, e, x, y, i, j, k, mul_pos (a -ℤ b) gp (omega (arith, ints, l)) r))) (λ l. omega (arith, ints, o, l)))
    (either_way a b z h)

-- a line that has both ends of a segment not on its left has none of its points there
pub not_left_on : (a b : Point) (s : Seg) (p : Point) → IsOn s p → NotLeft a b s.a → NotLeft a b s.b → NotLeft a b p
not_left_on a b s p on ha hb = by_lt_z (pos 0) (cross_of a b p)
    (λ l.
    let x = by_width a b s.a s.b p in
    let y = by_height a b s.a s.b p in
    let i = times_none (b.x -ℤ a.x) (cross_of s.a s.b p) on.line in
    let j = times_none (b.y -ℤ a.y) (cross_of s.a s.b p) on.line in
    let ex : p.x ≡ s.a.x = no_place s.a.x p.x s.b.x (cross_of a b s.a) (cross_of a b s.b) (cross_of a b p) on.wide (omega (arith, ints, x, i)) ha hb l in
    let ey : p.y ≡ s.a.y = no_place s.a.y p.y s.b.y (cross_of a b s.a) (cross_of a b s.b) (cross_of a b p) on.high (omega (arith, ints, y, j)) ha hb l in
    let same : cross_of a b p ≡ cross_of a b s.a = ap₂ (λ i j. (b.x -ℤ a.x) *ℤ (j -ℤ a.y) -ℤ (b.y -ℤ a.y) *ℤ (i -ℤ a.x)) ex ey in
    absurd (omega (arith, ints, same, l, ha)))
    (λ l. l)

one_more : (x y : ℤ) → x *ℤ (y +ℤ pos 1) ≡ x *ℤ y +ℤ x
one_more x y = ring (Mul (V x) (Add (V y) (V (pos 1)))) (Add (Mul (V x) (V y)) (V x)) (omega arith)

-- the mean of two numbers is one more where both are
raised : (a z b ga gb gp : ℤ) → (b -ℤ a) *ℤ gp ≡ (b -ℤ z) *ℤ ga +ℤ (z -ℤ a) *ℤ gb → (b -ℤ a) *ℤ (gp +ℤ pos 1) ≡ (b -ℤ z) *ℤ (ga +ℤ pos 1) +ℤ (z -ℤ a) *ℤ (gb +ℤ pos 1)
raised a z b ga gb gp e = let p = one_more (b -ℤ a) gp in let q = one_more (b -ℤ z) ga in let r = one_more (z -ℤ a) gb in omega (arith, ints, e, p, q, r)

-- a line that has both ends of a segment strictly on its right has all its points there
pub right_on : (a b : Point) (s : Seg) (p : Point) → IsOn s p → cross_of a b s.a <ℤ pos 0 → cross_of a b s.b <ℤ pos 0 → cross_of a b p <ℤ pos 0
right_on a b s p on ha hb = by_lt_z (cross_of a b p) (pos 0)
    (λ l. l)
    (λ l.
    let ga : ℤ = cross_of a b s.a +ℤ pos 1 in
    let gb : ℤ = cross_of a b s.b +ℤ pos 1 in
    let gp : ℤ = cross_of a b p +ℤ pos 1 in
    let la : ga ≤ℤ pos 0 = omega (arith, ints, ha) in
    let lb : gb ≤ℤ pos 0 = omega (arith, ints, hb) in
    let lp : pos 0 <ℤ gp = omega (arith, ints, l) in
    let x = by_width a b s.a s.b p in
    let y = by_height a b s.a s.b p in
    let i = times_none (b.x -ℤ a.x) (cross_of s.a s.b p) on.line in
    let j = times_none (b.y -ℤ a.y) (cross_of s.a s.b p) on.line in
    let wide = raised s.a.x p.x s.b.x (cross_of a b s.a) (cross_of a b s.b) (cross_of a b p) (omega (arith, ints, x, i)) in
    let high = raised s.a.y p.y s.b.y (cross_of a b s.a) (cross_of a b s.b) (cross_of a b p) (omega (arith, ints, y, j)) in
    let ex : p.x ≡ s.a.x = no_place s.a.x p.x s.b.x ga gb gp on.wide wide la lb lp in
    let ey : p.y ≡ s.a.y = no_place s.a.y p.y s.b.y ga gb gp on.high high la lb lp in
    let same : cross_of a b p ≡ cross_of a b s.a = ap₂ (λ i j. (b.x -ℤ a.x) *ℤ (j -ℤ a.y) -ℤ (b.y -ℤ a.y) *ℤ (i -ℤ a.x)) ex ey in
    absurd (omega (arith, ints, same, l, ha)))

-- ---- a segment that is cut

pub nonneg_from_mul : (a b : ℤ) → pos 0 <ℤ a → pos 0 ≤ℤ (a *ℤ b) → pos 0 ≤ℤ b
nonneg_from_mul a b h k = by_lt_z b (pos 0) (λ l. absurd (omega (arith, ints, mul_neg a b h l, k))) (λ l. l)

square : (s : ℤ) → pos 0 ≤ℤ (s *ℤ s)
square s = by_lt_z s (pos 0)
    (λ l. let e : neg_ℤ s *ℤ neg_ℤ s ≡ s *ℤ s = ring (Mul (Neg (V s)) (Neg (V s))) (Mul (V s) (V s)) (omega arith) in subst (λ z. pos 0 ≤ℤ z) e (mul_nonneg (neg_ℤ s) (neg_ℤ s) (omega (arith, ints, l)) (omega (arith, ints, l))))
    (λ l. mul_nonneg s s l l)

-- not 0
abbrev Apart : ℤ → Type 0
Apart t = (t <ℤ pos 0) ⊎ (pos 0 <ℤ t)

some_square : (t : ℤ) → Apart t → pos 0 <ℤ (t *ℤ t)
some_square t h = ⊎_elim
    (λ l. let e : neg_ℤ t *ℤ neg_ℤ t ≡ t *ℤ t = ring (Mul (Neg (V t)) (Neg (V t))) (Mul (V t) (V t)) (omega arith) in subst (λ z. pos 0 <ℤ z) e (mul_pos (neg_ℤ t) (neg_ℤ t) (omega (arith, ints, l)) (omega (arith, ints, l))))
    (λ l. mul_pos t t l l)
    h

none_from_mul : (t x : ℤ) → Apart t → t *ℤ x ≡ pos 0 → x ≡ pos 0
none_from_mul t x h e =
    let k : (t *ℤ t) *ℤ x ≡ pos 0 = ring (Mul (Mul (V t) (V t)) (V x)) (Mul (V t) (Mul (V t) (V x))) (omega arith) ∙ times_none t (t *ℤ x) e in
    let s = some_square t h in
    by_lt_z x (pos 0) (λ l. absurd (omega (arith, ints, k, mul_neg (t *ℤ t) x s l))) (λ l. by_lt_z (pos 0) x (λ m. absurd (omega (arith, ints, k, mul_pos (t *ℤ t) x s m))) (λ m. omega (arith, ints, l, m)))

-- two steps in proportion to two others that have one direction have one direction too
in_proportion : (t s x y x' y' : ℤ) → Apart t → t *ℤ y ≡ s *ℤ x → t *ℤ y' ≡ s *ℤ x' → pos 0 ≤ℤ (x *ℤ x') → pos 0 ≤ℤ (y *ℤ y')
in_proportion t s x y x' y' h e k l =
    let a : (t *ℤ t) *ℤ (y *ℤ y') ≡ (t *ℤ y) *ℤ (t *ℤ y') = ring (Mul (Mul (V t) (V t)) (Mul (V y) (V y'))) (Mul (Mul (V t) (V y)) (Mul (V t) (V y'))) (omega arith) in
    let b : (t *ℤ y) *ℤ (t *ℤ y') ≡ (s *ℤ x) *ℤ (s *ℤ x') = ap₂ ◌*ℤ◌ e k in
    let c : (s *ℤ x) *ℤ (s *ℤ x') ≡ (s *ℤ s) *ℤ (x *ℤ x') = ring (Mul (Mul (V s) (V x)) (Mul (V s) (V x'))) (Mul (Mul (V s) (V s)) (Mul (V x) (V x'))) (omega arith) in
    nonneg_from_mul (t *ℤ t) (y *ℤ y') (some_square t h) (subst (λ z. pos 0 ≤ℤ z) (sym (a ∙ (b ∙ c))) (mul_nonneg (s *ℤ s) (x *ℤ x') (square s) l))

-- what lies on one line with a segment and between its ends by width lies on it
on_slanting : (t s : ℤ) (u v p : Point) → Apart t → t *ℤ (v.y -ℤ u.y) ≡ s *ℤ (v.x -ℤ u.x) → t *ℤ (p.y -ℤ u.y) ≡ s *ℤ (p.x -ℤ u.x) → Between u.x v.x p.x → IsOn (seg u v) p
on_slanting t s u v p h e k wide =
    let wx : ℤ = v.x -ℤ u.x in
    let px : ℤ = p.x -ℤ u.x in
    let wy : ℤ = v.y -ℤ u.y in
    let py : ℤ = p.y -ℤ u.y in
    let a : t *ℤ (wx *ℤ py -ℤ wy *ℤ px) ≡ wx *ℤ (t *ℤ py) -ℤ (t *ℤ wy) *ℤ px = ring (Mul (V t) (Sub (Mul (V wx) (V py)) (Mul (V wy) (V px)))) (Sub (Mul (V wx) (Mul (V t) (V py))) (Mul (Mul (V t) (V wy)) (V px))) (omega arith) in
    let b : wx *ℤ (t *ℤ py) -ℤ (t *ℤ wy) *ℤ px ≡ wx *ℤ (s *ℤ px) -ℤ (s *ℤ wx) *ℤ px = ap₂ (λ i j. wx *ℤ i -ℤ j *ℤ px) k e in
    let c : wx *ℤ (s *ℤ px) -ℤ (s *ℤ wx) *ℤ px ≡ pos 0 = ring (Sub (Mul (V wx) (Mul (V s) (V px))) (Mul (Mul (V s) (V wx)) (V px))) (V (pos 0)) (omega arith) in
    let far : (z y x : ℤ) → t *ℤ (z -ℤ y) ≡ t *ℤ (z -ℤ x) -ℤ t *ℤ (y -ℤ x) = λ z y x. ring (Mul (V t) (Sub (V z) (V y))) (Sub (Mul (V t) (Sub (V z) (V x))) (Mul (V t) (Sub (V y) (V x)))) (omega arith) in
    let back : (z y x : ℤ) → s *ℤ (z -ℤ x) -ℤ s *ℤ (y -ℤ x) ≡ s *ℤ (z -ℤ y) = λ z y x. ring (Sub (Mul (V s) (Sub (V z) (V x))) (Mul (V s) (Sub (V y) (V x)))) (Mul (V s) (Sub (V z) (V y))) (omega arith) in
    let rest : t *ℤ (v.y -ℤ p.y) ≡ s *ℤ (v.x -ℤ p.x) = far v.y p.y u.y ∙ (ap₂ ◌-ℤ◌ e k ∙ back v.x p.x u.x) in
    record {
      line = none_from_mul t (wx *ℤ py -ℤ wy *ℤ px) h (a ∙ (b ∙ c));
      wide = wide;
      high = gathered u.y v.y p.y (in_proportion t s (p.x -ℤ u.x) (p.y -ℤ u.y) (v.x -ℤ p.x) (v.y -ℤ p.y) h k rest (spread u.x v.x p.x wide));
    }

pub on_upright : (u v p : Point) → v.x ≡ u.x → p.x ≡ u.x → Between u.y v.y p.y → IsOn (seg u v) p
on_upright u v p e k high =
    let i : v.x -ℤ u.x ≡ pos 0 = omega (arith, ints, e) in
    let j : p.x -ℤ u.x ≡ pos 0 = omega (arith, ints, k) in
    let a : cross_of u v p ≡ pos 0 *ℤ (p.y -ℤ u.y) -ℤ (v.y -ℤ u.y) *ℤ pos 0 = ap₂ (λ x y. x *ℤ (p.y -ℤ u.y) -ℤ (v.y -ℤ u.y) *ℤ y) i j in
    let b : pos 0 *ℤ (p.y -ℤ u.y) -ℤ (v.y -ℤ u.y) *ℤ pos 0 ≡ pos 0 = ring (Sub (Mul (V (pos 0)) (V (p.y -ℤ u.y))) (Mul (V (v.y -ℤ u.y)) (V (pos 0)))) (V (pos 0)) (omega arith) in
    record { line = a ∙ b; wide = in_order u.x v.x p.x (omega (arith, ints, k)) (omega (arith, ints, e, k)); high = high }

same_between : (a b z : ℤ) → b ≡ a → Between a b z → z ≡ a
same_between a b z e h = ⊎_elim (λ o. omega (arith, ints, e, o)) (λ o. omega (arith, ints, e, o)) (either_way a b z h)

level_zero : (x y : ℤ) → x -ℤ y ≡ pos 0 → x ≡ y
level_zero x y e = omega (arith, ints, e)

-- a point of a segment lies on one side of another of its points
pub split_at : (a b c p : Point) → IsOn (seg a c) b → IsOn (seg a c) p → IsOn (seg a b) p ⊎ IsOn (seg b c) p
split_at a b c p hb hp = by_lt_z (c.x -ℤ a.x) (pos 0) (λ l. slanting (inl l)) (λ l. by_lt_z (pos 0) (c.x -ℤ a.x) (λ m. slanting (inr m)) (λ m. upright (omega (arith, ints, l, m))))
  where
    upright : c.x -ℤ a.x ≡ pos 0 → IsOn (seg a b) p ⊎ IsOn (seg b c) p
    upright e =
        let ec : c.x ≡ a.x = omega (arith, ints, e) in
        let eb = same_between a.x c.x b.x ec hb.wide in
        let ep = same_between a.x c.x p.x ec hp.wide in
        ⊎_elim (λ l. inl (on_upright a b p eb ep l)) (λ r. inr (on_upright b c p (ec ∙ sym eb) (ep ∙ sym eb) r)) (parted a.y b.y c.y p.y hb.high hp.high)

    slanting : Apart (c.x -ℤ a.x) → IsOn (seg a b) p ⊎ IsOn (seg b c) p
    slanting h =
        let s : ℤ = c.y -ℤ a.y in
        let eb : (c.x -ℤ a.x) *ℤ (b.y -ℤ a.y) ≡ s *ℤ (b.x -ℤ a.x) = level_zero _ _ hb.line in
        let ep : (c.x -ℤ a.x) *ℤ (p.y -ℤ a.y) ≡ s *ℤ (p.x -ℤ a.x) = level_zero _ _ hp.line in
        let ec : (c.x -ℤ a.x) *ℤ (c.y -ℤ a.y) ≡ s *ℤ (c.x -ℤ a.x) = ring (Mul (V (c.x -ℤ a.x)) (V (c.y -ℤ a.y))) (Mul (V (c.y -ℤ a.y)) (V (c.x -ℤ a.x))) (omega arith) in
        let far : (k z y x : ℤ) → k *ℤ (z -ℤ y) ≡ k *ℤ (z -ℤ x) -ℤ k *ℤ (y -ℤ x) = λ k z y x. ring (Mul (V k) (Sub (V z) (V y))) (Sub (Mul (V k) (Sub (V z) (V x))) (Mul (V k) (Sub (V y) (V x)))) (omega arith) in
        let on_c : (c.x -ℤ a.x) *ℤ (c.y -ℤ b.y) ≡ s *ℤ (c.x -ℤ b.x) = far (c.x -ℤ a.x) c.y b.y a.y ∙ (ap₂ ◌-ℤ◌ ec eb ∙ sym (far s c.x b.x a.x)) in
        let on_p : (c.x -ℤ a.x) *ℤ (p.y -ℤ b.y) ≡ s *ℤ (p.x -ℤ b.x) = far (c.x -ℤ a.x) p.y b.y a.y ∙ (ap₂ ◌-ℤ◌ ep eb ∙ sym (far s p.x b.x a.x)) in
        ⊎_elim
        (λ l. inl (on_slanting (c.x -ℤ a.x) s a b p h eb ep l))
        (λ r. inr (on_slanting (c.x -ℤ a.x) s b c p h on_c on_p r))
        (parted a.x b.x c.x p.x hb.wide hp.wide)

-- ---- a chord between two legs of a corner

-- along a line, distances are in proportion to the sides of another
by_side : (a b c d p : Point) → (cross_of a b d -ℤ cross_of a b c) *ℤ (p.x -ℤ c.x) ≡ (cross_of a b p -ℤ cross_of a b c) *ℤ (d.x -ℤ c.x) -ℤ (b.x -ℤ a.x) *ℤ cross_of c d p
by_side a b c d p =
    let ex : Poly = V (b.x -ℤ a.x) in
    let ey : Poly = V (b.y -ℤ a.y) in
    let side = λ (z : Point). Sub (Mul ex (Sub (V z.y) (V a.y))) (Mul ey (Sub (V z.x) (V a.x))) in
    let line : Poly = Sub (Mul (Sub (V d.x) (V c.x)) (Sub (V p.y) (V c.y))) (Mul (Sub (V d.y) (V c.y)) (Sub (V p.x) (V c.x))) in
    ring (Mul (Sub (side d) (side c)) (Sub (V p.x) (V c.x))) (Sub (Mul (Sub (side p) (side c)) (Sub (V d.x) (V c.x))) (Mul ex line)) (omega arith)

by_side_up : (a b c d p : Point) → (cross_of a b d -ℤ cross_of a b c) *ℤ (p.y -ℤ c.y) ≡ (cross_of a b p -ℤ cross_of a b c) *ℤ (d.y -ℤ c.y) -ℤ (b.y -ℤ a.y) *ℤ cross_of c d p
by_side_up a b c d p =
    let ex : Poly = V (b.x -ℤ a.x) in
    let ey : Poly = V (b.y -ℤ a.y) in
    let side = λ (z : Point). Sub (Mul ex (Sub (V z.y) (V a.y))) (Mul ey (Sub (V z.x) (V a.x))) in
    let line : Poly = Sub (Mul (Sub (V d.x) (V c.x)) (Sub (V p.y) (V c.y))) (Mul (Sub (V d.y) (V c.y)) (Sub (V p.x) (V c.x))) in
    ring (Mul (Sub (side d) (side c)) (Sub (V p.y) (V c.y))) (Sub (Mul (Sub (side p) (side c)) (Sub (V d.y) (V c.y))) (Mul ey line)) (omega arith)

-- from one end of a segment a point lies as far toward the other as the sides of a line say
toward : (d c p far near : ℤ) → far <ℤ pos 0 → near ≤ℤ pos 0 → far *ℤ (p -ℤ c) ≡ near *ℤ (d -ℤ c) → (c ≤ℤ d → c ≤ℤ p) × (d ≤ℤ c → p ≤ℤ c)
toward d c p far near f n e = (
  λ l.
      let x = mul_nonneg (neg_ℤ near) (d -ℤ c) (omega (arith, ints, n)) (omega (arith, ints, l)) in
      let y : neg_ℤ near *ℤ (d -ℤ c) ≡ neg_ℤ far *ℤ (p -ℤ c) = negated near (d -ℤ c) ∙ (ap neg_ℤ (sym e) ∙ sym (negated far (p -ℤ c))) in
      let z = nonneg_from_mul (neg_ℤ far) (p -ℤ c) (omega (arith, ints, f)) (subst (λ z. pos 0 ≤ℤ z) y x) in
      omega (arith, ints, z),
  λ l.
      let x = mul_nonpos (neg_ℤ near) (d -ℤ c) (omega (arith, ints, n)) (omega (arith, ints, l)) in
      let y : neg_ℤ near *ℤ (d -ℤ c) ≡ neg_ℤ far *ℤ (p -ℤ c) = negated near (d -ℤ c) ∙ (ap neg_ℤ (sym e) ∙ sym (negated far (p -ℤ c))) in
      let z = nonpos_from_mul (neg_ℤ far) (p -ℤ c) (omega (arith, ints, f)) (subst (λ z. z ≤ℤ pos 0) y x) in
      omega (arith, ints, z),
)
  where
    negated : (a b : ℤ) → neg_ℤ a *ℤ b ≡ neg_ℤ (a *ℤ b)
    negated a b = ring (Mul (Neg (V a)) (V b)) (Neg (Mul (V a) (V b))) (omega arith)

both_toward : (c d p : ℤ) → (c ≤ℤ d → c ≤ℤ p) × (d ≤ℤ c → p ≤ℤ c) → (d ≤ℤ c → d ≤ℤ p) × (c ≤ℤ d → p ≤ℤ d) → Between c d p
both_toward c d p h k = by_lt_z d c (λ l. let m : d ≤ℤ c = omega (arith, ints, l) in against c d p (k.0 m) (h.1 m)) (λ l. in_order c d p (h.0 l) (k.1 l))

module _ (a b c d p : Point) (on : cross_of a b c ≡ pos 0) (line : cross_of c d p ≡ pos 0) where
  wide_by : cross_of a b d *ℤ (p.x -ℤ c.x) ≡ cross_of a b p *ℤ (d.x -ℤ c.x)
  wide_by =
      let e = by_side a b c d p in
      let z = times_none (b.x -ℤ a.x) (cross_of c d p) line in
      let f : cross_of a b d -ℤ cross_of a b c ≡ cross_of a b d = omega (arith, ints, on) in
      let g : cross_of a b p -ℤ cross_of a b c ≡ cross_of a b p = omega (arith, ints, on) in
      let i = ap (λ x. x *ℤ (p.x -ℤ c.x)) f in
      let j = ap (λ x. x *ℤ (d.x -ℤ c.x)) g in
      omega (arith, ints, e, z, i, j)

  high_by : cross_of a b d *ℤ (p.y -ℤ c.y) ≡ cross_of a b p *ℤ (d.y -ℤ c.y)
  high_by =
      let e = by_side_up a b c d p in
      let z = times_none (b.y -ℤ a.y) (cross_of c d p) line in
      let f : cross_of a b d -ℤ cross_of a b c ≡ cross_of a b d = omega (arith, ints, on) in
      let g : cross_of a b p -ℤ cross_of a b c ≡ cross_of a b p = omega (arith, ints, on) in
      let i = ap (λ x. x *ℤ (p.y -ℤ c.y)) f in
      let j = ap (λ x. x *ℤ (d.y -ℤ c.y)) g in
      omega (arith, ints, e, z, i, j)

-- a segment leads from the line ab to the line ef, each of which has its other end strictly on its right: a point of its line that isn't left of either lies on it
pub on_chord : (a b e f c d p : Point) → cross_of a b c ≡ pos 0 → cross_of a b d <ℤ pos 0 → NotLeft a b p → cross_of e f d ≡ pos 0 → cross_of e f c <ℤ pos 0 → NotLeft e f p → cross_of c d p ≡ pos 0 → IsOn (seg c d) p
on_chord a b e f c d p ac ad ap_ ed ec ep line =
    let back : cross_of d c p ≡ pos 0 = side_back c d p ∙ ap neg_ℤ line in
    record {
      line = line;
      wide = both_toward c.x d.x p.x (toward d.x c.x p.x (cross_of a b d) (cross_of a b p) ad ap_ (wide_by a b c d p ac line)) (toward c.x d.x p.x (cross_of e f c) (cross_of e f p) ec ep (wide_by e f d c p ed back));
      high = both_toward c.y d.y p.y (toward d.y c.y p.y (cross_of a b d) (cross_of a b p) ad ap_ (high_by a b c d p ac line)) (toward c.y d.y p.y (cross_of e f c) (cross_of e f p) ec ep (high_by e f d c p ed back));
    }
