-- A segment that parts two points counts one more at the one on its right, but for what falls along it.
use Rattle.std.proofs.Common.{◌≡◌, ◌⊎◌, inl, inr, ℤ, pos, ◌+ℤ◌, ◌-ℤ◌, ◌*ℤ◌, neg_ℤ, ◌≤ℤ◌, ◌<ℤ◌, negsuc, int_le, int_lt, cond, ◌&&◌, List, [], ◌∷◌, All, refl, ap, ap₂, ◌∙◌, arith}
use Rattle.std.proofs.lemmas.Int.{ints, by_lt_z}
use Rattle.std.proofs.lemmas.List.Elements.{All-head, All-tail}
use Rattle.plane_geom.specs.Geom.{cross_of, turn_of}
use Rattle.plane_geom.specs.Segments.{turned}
use Rattle.plane_geom.specs.declared.Point.{Point}
use Rattle.plane_geom.specs.declared.Seg.{Seg}
use Rattle.plane_laws.specs.Borders.{total}
use Rattle.plane_laws.proofs.Algebra.{ring, V, Add, Sub, Mul, Neg, mul_nonneg}
use Rattle.plane_laws.proofs.Counts.{count_is, turns_back}
use Rattle.plane_laws.proofs.Lines.{cross_of_poly}
use Rattle.plane_laws.proofs.Passing.{passing}
use Rattle.plane_strips.proofs.Parting.{parted, swept, turns_differ}
use Rattle.ring_laws.specs.Crossing.{ChangesByCrossings, Crosses, Weighs}
use Rattle.ring_laws.specs.Crossing.Weighs.{Ahead, Back, Apart}

abbrev between : ℤ → ℤ → ℤ → ℤ → ℤ
between h k y c = cond (int_lt h y && int_le y k && int_lt c (pos 0)) (pos 1) (cond (int_lt k y && int_le y h && int_lt (pos 0) c) (negsuc 0) (pos 0))

-- by the heights of the path's three points, of the segment's two ends, and the signs of the sides
falling : (p m q a b x y d e f g : ℤ) → b <ℤ m → m <ℤ a → x <ℤ pos 0 → pos 0 <ℤ y → pos 0 <ℤ d → e <ℤ pos 0 → pos 0 <ℤ f → g <ℤ pos 0 →
    passing p a b x -ℤ passing q a b y ≡ ((between p m a d +ℤ between m q a f) -ℤ (between p m b e +ℤ between m q b g)) +ℤ pos 1
falling p m q a b x y d e f g h1 h2 h3 h4 h5 h6 h7 h8 = grind (arith, ints, h1, h2, h3, h4, h5, h6, h7, h8)

rising : (p m q a b x y d e f g : ℤ) → a <ℤ m → m <ℤ b → x <ℤ pos 0 → pos 0 <ℤ y → pos 0 <ℤ d → e <ℤ pos 0 → pos 0 <ℤ f → g <ℤ pos 0 →
    passing p a b x -ℤ passing q a b y ≡ ((between p m a d +ℤ between m q a f) -ℤ (between p m b e +ℤ between m q b g)) +ℤ pos 1
rising p m q a b x y d e f g h1 h2 h3 h4 h5 h6 h7 h8 = grind (arith, ints, h1, h2, h3, h4, h5, h6, h7, h8)

level : (p m q a b x y d e f g : ℤ) → a ≡ m → b ≡ m → x <ℤ pos 0 → pos 0 <ℤ y → pos 0 <ℤ d → e <ℤ pos 0 → pos 0 <ℤ f → g <ℤ pos 0 → ((p <ℤ m) × (m ≤ℤ q)) ⊎ ((m ≤ℤ p) × (q <ℤ m)) →
    passing p a b x -ℤ passing q a b y ≡ ((between p m a d +ℤ between m q a f) -ℤ (between p m b e +ℤ between m q b g)) +ℤ pos 1
level p m q a b x y d e f g h1 h2 h3 h4 h5 h6 h7 h8 (inl s) = let s0 = s.0 in let s1 = s.1 in grind (arith, ints, h1, h2, h3, h4, h5, h6, h7, h8, s0, s1)
level p m q a b x y d e f g h1 h2 h3 h4 h5 h6 h7 h8 (inr s) = let s0 = s.0 in let s1 = s.1 in grind (arith, ints, h1, h2, h3, h4, h5, h6, h7, h8, s0, s1)

by_heights : (p m q a b x y d e f g : ℤ) → m +ℤ m ≡ a +ℤ b → x <ℤ pos 0 → pos 0 <ℤ y → pos 0 <ℤ d → e <ℤ pos 0 → pos 0 <ℤ f → g <ℤ pos 0 → (a ≡ b → ((p <ℤ m) × (m ≤ℤ q)) ⊎ ((m ≤ℤ p) × (q <ℤ m))) →
    passing p a b x -ℤ passing q a b y ≡ ((between p m a d +ℤ between m q a f) -ℤ (between p m b e +ℤ between m q b g)) +ℤ pos 1
by_heights p m q a b x y d e f g mid h3 h4 h5 h6 h7 h8 sides = by_lt_z b a
    (λ l. falling p m q a b x y d e f g (omega (arith, ints, mid, l)) (omega (arith, ints, mid, l)) h3 h4 h5 h6 h7 h8)
    (λ n. by_lt_z a b
    (λ l. rising p m q a b x y d e f g (omega (arith, ints, mid, l)) (omega (arith, ints, mid, l)) h3 h4 h5 h6 h7 h8)
    (λ o. level p m q a b x y d e f g (omega (arith, ints, mid, n, o)) (omega (arith, ints, mid, n, o)) h3 h4 h5 h6 h7 h8 (sides (omega (arith, ints, n, o)))))

module _ (p m q : Point) where
  -- what a segment apart from both legs changes by, its ends account for
  abbrev swept_both : Point → ℤ
  swept_both z = swept p m z +ℤ swept m q z

  apart_differ : (s : Seg) → turn_of s p -ℤ turn_of s m ≡ swept p m s.a -ℤ swept p m s.b → turn_of s m -ℤ turn_of s q ≡ swept m q s.a -ℤ swept m q s.b → turn_of s p -ℤ turn_of s q ≡ swept_both s.a -ℤ swept_both s.b
  apart_differ s e k = omega (arith, ints, e, k)

  module _ (u : Seg) (c : Crosses p m q u) where
    half_first : cross_of p m u.a +ℤ cross_of p m u.a ≡ neg_ℤ (cross_of u.a u.b p)
    half_first =
        let e = c.wide in
        let k = c.high in
        let f : cross_of p m u.a +ℤ cross_of p m u.a ≡ ((m.x +ℤ m.x) -ℤ (p.x +ℤ p.x)) *ℤ (u.a.y -ℤ p.y) -ℤ ((m.y +ℤ m.y) -ℤ (p.y +ℤ p.y)) *ℤ (u.a.x -ℤ p.x) =
        ring (Add (cross_of_poly p m u.a) (cross_of_poly p m u.a)) (Sub (Mul (Sub (Add (V m.x) (V m.x)) (Add (V p.x) (V p.x))) (Sub (V u.a.y) (V p.y))) (Mul (Sub (Add (V m.y) (V m.y)) (Add (V p.y) (V p.y))) (Sub (V u.a.x) (V p.x)))) (omega arith) in
        f ∙ (ap₂ (λ x y. (x -ℤ (p.x +ℤ p.x)) *ℤ (u.a.y -ℤ p.y) -ℤ (y -ℤ (p.y +ℤ p.y)) *ℤ (u.a.x -ℤ p.x)) e k
        ∙ ring (Sub (Mul (Sub (Add (V u.a.x) (V u.b.x)) (Add (V p.x) (V p.x))) (Sub (V u.a.y) (V p.y))) (Mul (Sub (Add (V u.a.y) (V u.b.y)) (Add (V p.y) (V p.y))) (Sub (V u.a.x) (V p.x)))) (Neg (cross_of_poly u.a u.b p)) (omega arith))

    half_second : cross_of p m u.b +ℤ cross_of p m u.b ≡ cross_of u.a u.b p
    half_second =
        let e = c.wide in
        let k = c.high in
        let f : cross_of p m u.b +ℤ cross_of p m u.b ≡ ((m.x +ℤ m.x) -ℤ (p.x +ℤ p.x)) *ℤ (u.b.y -ℤ p.y) -ℤ ((m.y +ℤ m.y) -ℤ (p.y +ℤ p.y)) *ℤ (u.b.x -ℤ p.x) =
        ring (Add (cross_of_poly p m u.b) (cross_of_poly p m u.b)) (Sub (Mul (Sub (Add (V m.x) (V m.x)) (Add (V p.x) (V p.x))) (Sub (V u.b.y) (V p.y))) (Mul (Sub (Add (V m.y) (V m.y)) (Add (V p.y) (V p.y))) (Sub (V u.b.x) (V p.x)))) (omega arith) in
        f ∙ (ap₂ (λ x y. (x -ℤ (p.x +ℤ p.x)) *ℤ (u.b.y -ℤ p.y) -ℤ (y -ℤ (p.y +ℤ p.y)) *ℤ (u.b.x -ℤ p.x)) e k
        ∙ ring (Sub (Mul (Sub (Add (V u.a.x) (V u.b.x)) (Add (V p.x) (V p.x))) (Sub (V u.b.y) (V p.y))) (Mul (Sub (Add (V u.a.y) (V u.b.y)) (Add (V p.y) (V p.y))) (Sub (V u.b.x) (V p.x)))) (cross_of_poly u.a u.b p) (omega arith))

    beyond_first : cross_of m q u.a +ℤ cross_of m q u.a ≡ cross_of u.a u.b q
    beyond_first =
        let e = c.wide in
        let k = c.high in
        let f : cross_of m q u.a +ℤ cross_of m q u.a ≡ (q.x *ℤ (u.a.y +ℤ u.a.y) -ℤ q.y *ℤ (u.a.x +ℤ u.a.x)) -ℤ ((m.x +ℤ m.x) *ℤ (u.a.y -ℤ q.y) -ℤ (m.y +ℤ m.y) *ℤ (u.a.x -ℤ q.x)) =
        ring (Add (cross_of_poly m q u.a) (cross_of_poly m q u.a)) (Sub (Sub (Mul (V q.x) (Add (V u.a.y) (V u.a.y))) (Mul (V q.y) (Add (V u.a.x) (V u.a.x)))) (Sub (Mul (Add (V m.x) (V m.x)) (Sub (V u.a.y) (V q.y))) (Mul (Add (V m.y) (V m.y)) (Sub (V u.a.x) (V q.x))))) (omega arith) in
        f ∙ (ap₂ (λ x y. (q.x *ℤ (u.a.y +ℤ u.a.y) -ℤ q.y *ℤ (u.a.x +ℤ u.a.x)) -ℤ (x *ℤ (u.a.y -ℤ q.y) -ℤ y *ℤ (u.a.x -ℤ q.x))) e k
        ∙ ring (Sub (Sub (Mul (V q.x) (Add (V u.a.y) (V u.a.y))) (Mul (V q.y) (Add (V u.a.x) (V u.a.x)))) (Sub (Mul (Add (V u.a.x) (V u.b.x)) (Sub (V u.a.y) (V q.y))) (Mul (Add (V u.a.y) (V u.b.y)) (Sub (V u.a.x) (V q.x))))) (cross_of_poly u.a u.b q) (omega arith))

    beyond_second : cross_of m q u.b +ℤ cross_of m q u.b ≡ neg_ℤ (cross_of u.a u.b q)
    beyond_second =
        let e = c.wide in
        let k = c.high in
        let f : cross_of m q u.b +ℤ cross_of m q u.b ≡ (q.x *ℤ (u.b.y +ℤ u.b.y) -ℤ q.y *ℤ (u.b.x +ℤ u.b.x)) -ℤ ((m.x +ℤ m.x) *ℤ (u.b.y -ℤ q.y) -ℤ (m.y +ℤ m.y) *ℤ (u.b.x -ℤ q.x)) =
        ring (Add (cross_of_poly m q u.b) (cross_of_poly m q u.b)) (Sub (Sub (Mul (V q.x) (Add (V u.b.y) (V u.b.y))) (Mul (V q.y) (Add (V u.b.x) (V u.b.x)))) (Sub (Mul (Add (V m.x) (V m.x)) (Sub (V u.b.y) (V q.y))) (Mul (Add (V m.y) (V m.y)) (Sub (V u.b.x) (V q.x))))) (omega arith) in
        f ∙ (ap₂ (λ x y. (q.x *ℤ (u.b.y +ℤ u.b.y) -ℤ q.y *ℤ (u.b.x +ℤ u.b.x)) -ℤ (x *ℤ (u.b.y -ℤ q.y) -ℤ y *ℤ (u.b.x -ℤ q.x))) e k
        ∙ ring (Sub (Sub (Mul (V q.x) (Add (V u.b.y) (V u.b.y))) (Mul (V q.y) (Add (V u.b.x) (V u.b.x)))) (Sub (Mul (Add (V u.a.x) (V u.b.x)) (Sub (V u.b.y) (V q.y))) (Mul (Add (V u.a.y) (V u.b.y)) (Sub (V u.b.x) (V q.x))))) (Neg (cross_of_poly u.a u.b q)) (omega arith))

    -- the signs of the four
    sign_first : pos 0 <ℤ cross_of p m u.a
    sign_first = let e = half_first in let r = c.right in omega (arith, ints, e, r)

    sign_second : cross_of p m u.b <ℤ pos 0
    sign_second = let e = half_second in let r = c.right in omega (arith, ints, e, r)

    sign_third : pos 0 <ℤ cross_of m q u.a
    sign_third = let e = beyond_first in let l = c.left in omega (arith, ints, e, l)

    sign_fourth : cross_of m q u.b <ℤ pos 0
    sign_fourth = let e = beyond_second in let l = c.left in omega (arith, ints, e, l)

    -- the same with the point first
    near : cross_of p u.a u.b <ℤ pos 0
    near =
        let e : cross_of p u.a u.b ≡ cross_of u.a u.b p = ring (cross_of_poly p u.a u.b) (cross_of_poly u.a u.b p) (omega arith) in
        let r = c.right in
        omega (arith, ints, e, r)

    far : pos 0 <ℤ cross_of q u.a u.b
    far =
        let e : cross_of q u.a u.b ≡ cross_of u.a u.b q = ring (cross_of_poly q u.a u.b) (cross_of_poly u.a u.b q) (omega arith) in
        let l = c.left in
        omega (arith, ints, e, l)

    -- on a level segment the two points lie on different sides of its height
    level_sides : u.a.y ≡ u.b.y → ((p.y <ℤ m.y) × (m.y ≤ℤ q.y)) ⊎ ((m.y ≤ℤ p.y) × (q.y <ℤ m.y))
    level_sides e =
        let k = c.high in
        let flat : u.b.y -ℤ u.a.y ≡ pos 0 = omega (arith, ints, e) in
        let none : (z : ℤ) → (u.b.y -ℤ u.a.y) *ℤ z ≡ pos 0 = λ z. ap (λ t. t *ℤ z) flat ∙ ring (Mul (V (pos 0)) (V z)) (V (pos 0)) (omega arith) in
        let r = c.right in
        let l = c.left in
        let at_p = none (p.x -ℤ u.a.x) in
        let at_q = none (q.x -ℤ u.a.x) in
        let w : ℤ = u.b.x -ℤ u.a.x in
        let below_p : (w *ℤ (p.y -ℤ u.a.y)) <ℤ pos 0 = omega (arith, ints, r, at_p) in
        let above_q : pos 0 <ℤ (w *ℤ (q.y -ℤ u.a.y)) = omega (arith, ints, l, at_q) in
        by_lt_z (pos 0) w
        (λ east. inl (
          by_lt_z p.y m.y (λ i. i) (λ i. let z = mul_nonneg w (p.y -ℤ u.a.y) (omega (arith, ints, east)) (omega (arith, ints, i, k, e)) in absurd (omega (arith, ints, z, below_p))),
          by_lt_z q.y m.y (λ i. let z = mul_nonneg w (u.a.y -ℤ q.y) (omega (arith, ints, east)) (omega (arith, ints, i, k, e)) in let s = back w q.y u.a.y in absurd (omega (arith, ints, z, s, above_q))) (λ i. i),
        ))
        (λ west. inr (
          by_lt_z p.y m.y (λ i. let z = mul_nonneg (neg_ℤ w) (u.a.y -ℤ p.y) (omega (arith, ints, west)) (omega (arith, ints, i, k, e)) in let s = both w p.y u.a.y in absurd (omega (arith, ints, z, s, below_p))) (λ i. i),
          by_lt_z q.y m.y (λ i. i) (λ i. let z = mul_nonneg (neg_ℤ w) (q.y -ℤ u.a.y) (omega (arith, ints, west)) (omega (arith, ints, i, k, e)) in let s = front w q.y u.a.y in absurd (omega (arith, ints, z, s, above_q))),
        ))
      where
        back : (w x y : ℤ) → w *ℤ (y -ℤ x) ≡ neg_ℤ (w *ℤ (x -ℤ y))
        back w x y = ring (Mul (V w) (Sub (V y) (V x))) (Neg (Mul (V w) (Sub (V x) (V y)))) (omega arith)

        both : (w x y : ℤ) → neg_ℤ w *ℤ (y -ℤ x) ≡ w *ℤ (x -ℤ y)
        both w x y = ring (Mul (Neg (V w)) (Sub (V y) (V x))) (Mul (V w) (Sub (V x) (V y))) (omega arith)

        front : (w x y : ℤ) → neg_ℤ w *ℤ (x -ℤ y) ≡ neg_ℤ (w *ℤ (x -ℤ y))
        front w x y = ring (Mul (Neg (V w)) (Sub (V x) (V y))) (Neg (Mul (V w) (Sub (V x) (V y)))) (omega arith)

    ahead_differs : turn_of u p -ℤ turn_of u q ≡ (swept_both u.a -ℤ swept_both u.b) +ℤ pos 1
    ahead_differs = by_heights p.y m.y q.y u.a.y u.b.y (cross_of p u.a u.b) (cross_of q u.a u.b) (cross_of p m u.a) (cross_of p m u.b) (cross_of m q u.a) (cross_of m q u.b) c.high near far sign_first sign_second sign_third sign_fourth level_sides

    back_differs : turn_of (turned u) p -ℤ turn_of (turned u) q ≡ (swept_both u.b -ℤ swept_both u.a) +ℤ (pos 0 -ℤ pos 1)
    back_differs =
        let e = ahead_differs in
        let k = turns_back u p in
        let l = turns_back u q in
        omega (arith, ints, e, k, l)

    one_differs : (s : Seg) (z : ℤ) → Weighs p m q u s z → turn_of s p -ℤ turn_of s q ≡ (swept_both s.a -ℤ swept_both s.b) +ℤ z
    one_differs s z Ahead = ahead_differs
    one_differs s z Back = back_differs
    one_differs s z (Apart f g) =
        let e = turns_differ p m s (parted p m s.a s.b f) in
        let k = turns_differ m q s (parted m q s.a s.b g) in
        omega (arith, ints, e, k)

    all_differ : (weight : Seg → ℤ) (segs : List Seg) → All (λ s. Weighs p m q u s (weight s)) segs → total (λ s. turn_of s p) segs -ℤ total (λ s. turn_of s q) segs ≡ total (λ s. swept_both s.a -ℤ swept_both s.b) segs +ℤ total weight segs
    all_differ weight [] h = refl
    all_differ weight (s ∷ segs) h =
        let W : Seg → Type 0 = λ s. Weighs p m q u s (weight s) in
        let one = one_differs s (weight s) (All-head W s segs h) in
        let rest = all_differ weight segs (All-tail W s segs h) in
        omega (arith, ints, one, rest)

pub changes : ChangesByCrossings
changes segs p m q u weight balanced c h =
    let d = all_differ p m q u c weight segs h in
    let b = balanced (swept_both p m q) in
    let at_p = count_is segs p in
    let at_q = count_is segs q in
    omega (arith, ints, d, b, at_p, at_q)
