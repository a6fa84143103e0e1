-- The pieces that chords cut off a triangle are convex.
use Rattle.std.proofs.Common.{◌≡◌, ℤ, pos, ◌+ℤ◌, ◌-ℤ◌, ◌*ℤ◌, neg_ℤ, ◌≤ℤ◌, ◌<ℤ◌, List, [], ◌∷◌, reverse, All, subst, sym, ap, ap₂, ◌∙◌, arith}
use Rattle.std.proofs.lemmas.Int.{ints}
use Rattle.std.proofs.lemmas.List.Elements.{All-nil, All-cons}
use Rattle.plane_geom.specs.Geom.{cross_of}
use Rattle.plane_geom.specs.declared.Point.{Point}
use Rattle.plane_laws.specs.Pieces.{corner_piece, middle_piece, HasMiddle}
use Rattle.plane_laws.specs.Outlines.{Vector, opposite, turning, at, seg, NoneLeft, IsConvex}
use Rattle.plane_laws.proofs.Algebra.{ring, V, Add, Sub, Mul, Neg, mul_nonneg, mul_nonpos, nonpos_from_mul}
use Rattle.plane_laws.proofs.Lines.{cross_of_poly, side_round, side_changes_evenly}
use Rattle.plane_laws.proofs.Chords.{at_poly, cross_poly, turning_poly, side_on_second_leg}

-- three points that do not turn left
abbrev Right : Point → Point → Point → Type 0
Right a b c = cross_of a b c ≤ℤ pos 0

round : (a b c : Point) → Right a b c → Right b c a
round a b c h = subst (λ z. z ≤ℤ pos 0) (sym (side_round a b c)) h

start : (a b : Point) → Right a b a
start a b = let z : cross_of a b a ≡ pos 0 = ring (cross_of_poly a b a) (V (pos 0)) (omega arith) in omega (arith, ints, z)

stop : (a b : Point) → Right a b b
stop a b = let z : cross_of a b b ≡ pos 0 = ring (cross_of_poly a b b) (V (pos 0)) (omega arith) in omega (arith, ints, z)

all4 : (P : Point → Type 0) (a b c d : Point) → P a → P b → P c → P d → All P (a ∷ b ∷ c ∷ d ∷ [])
all4 P a b c d i j k l = All-cons P a (b ∷ c ∷ d ∷ []) i (All-cons P b (c ∷ d ∷ []) j (All-cons P c (d ∷ []) k (All-cons P d [] l (All-nil P))))

all5 : (P : Point → Type 0) (a b c d e : Point) → P a → P b → P c → P d → P e → All P (a ∷ b ∷ c ∷ d ∷ e ∷ [])
all5 P a b c d e i j k l m = All-cons P a (b ∷ c ∷ d ∷ e ∷ []) i (all4 P b c d e j k l m)

-- four points of which each three in order do not turn left
four_convex : (a b c d : Point) → Right a b c → Right a b d → Right a c d → Right b c d → IsConvex (a ∷ b ∷ c ∷ d ∷ [])
four_convex a b c d abc abd acd bcd =
    let all : List Point = a ∷ b ∷ c ∷ d ∷ [] in
    All-cons (NoneLeft all) (seg a b) (seg b c ∷ seg c d ∷ seg d a ∷ []) (all4 (Right a b) a b c d (start a b) (stop a b) abc abd)
    (All-cons (NoneLeft all) (seg b c) (seg c d ∷ seg d a ∷ []) (all4 (Right b c) a b c d (round a b c abc) (start b c) (stop b c) bcd)
    (All-cons (NoneLeft all) (seg c d) (seg d a ∷ []) (all4 (Right c d) a b c d (round a c d acd) (round b c d bcd) (start c d) (stop c d))
    (All-cons (NoneLeft all) (seg d a) [] (all4 (Right d a) a b c d (stop d a) (round b d a (round a b d abd)) (round c d a (round a c d acd)) (start d a)) (All-nil (NoneLeft all)))))

-- each three of five points, in order, do not turn left
record FiveRight (a b c d e : Point) : Type 0 where
  abc : Right a b c
  abd : Right a b d
  abe : Right a b e
  acd : Right a c d
  ace : Right a c e
  ade : Right a d e
  bcd : Right b c d
  bce : Right b c e
  bde : Right b d e
  cde : Right c d e

five_convex : (a b c d e : Point) → FiveRight a b c d e → IsConvex (a ∷ b ∷ c ∷ d ∷ e ∷ [])
five_convex a b c d e h =
    let all : List Point = a ∷ b ∷ c ∷ d ∷ e ∷ [] in
    All-cons (NoneLeft all) (seg a b) (seg b c ∷ seg c d ∷ seg d e ∷ seg e a ∷ []) (all5 (Right a b) a b c d e (start a b) (stop a b) h.abc h.abd h.abe)
    (All-cons (NoneLeft all) (seg b c) (seg c d ∷ seg d e ∷ seg e a ∷ []) (all5 (Right b c) a b c d e (round a b c h.abc) (start b c) (stop b c) h.bcd h.bce)
    (All-cons (NoneLeft all) (seg c d) (seg d e ∷ seg e a ∷ []) (all5 (Right c d) a b c d e (round a c d h.acd) (round b c d h.bcd) (start c d) (stop c d) h.cde)
    (All-cons (NoneLeft all) (seg d e) (seg e a ∷ []) (all5 (Right d e) a b c d e (round a d e h.ade) (round b d e h.bde) (round c d e h.cde) (start d e) (stop d e))
    (All-cons (NoneLeft all) (seg e a) [] (all5 (Right e a) a b c d e (stop e a) (round b e a (round a b e h.abe)) (round c e a (round a c e h.ace)) (round d e a (round a d e h.ade)) (start e a)) (All-nil (NoneLeft all))))))

-- ---- points of two legs

-- a product of two numbers from 0 up and one up to 0
not_left : (x u v c : ℤ) → x ≡ (u *ℤ v) *ℤ c → pos 0 ≤ℤ u → pos 0 ≤ℤ v → c ≤ℤ pos 0 → x ≤ℤ pos 0
not_left x u v c e h k l = subst (λ z. z ≤ℤ pos 0) (sym e) (mul_nonpos (u *ℤ v) c (mul_nonneg u v h k) l)

module _ (w : Point) (e g : Vector) (turns : turning e g ≤ℤ pos 0) where
  -- three points of one leg
  one_leg : (d : Vector) (f h t : ℤ) → Right (at w d f) (at w d h) (at w d t)
  one_leg d f h t =
      let z : cross_of (at w d f) (at w d h) (at w d t) ≡ pos 0 = ring (cross_poly (at_poly w d f) (at_poly w d h) (at_poly w d t)) (V (pos 0)) (omega arith) in
      omega (arith, ints, z)

  -- two of the first leg, going out, and one of the second
  two_out : (f h t : ℤ) → f ≤ℤ h → pos 0 ≤ℤ t → Right (at w e f) (at w e h) (at w g t)
  two_out f h t a b = not_left _ (h -ℤ f) t (turning e g)
      (ring (cross_poly (at_poly w e f) (at_poly w e h) (at_poly w g t)) (Mul (Mul (Sub (V h) (V f)) (V t)) (turning_poly e g)) (omega arith))
      (omega (arith, ints)) b turns

  -- one of the first leg and two of the second, coming in
  two_in : (f h t : ℤ) → pos 0 ≤ℤ f → t ≤ℤ h → Right (at w e f) (at w g h) (at w g t)
  two_in f h t a b = not_left _ (h -ℤ t) f (turning e g) (side_on_second_leg w e g f h t) (omega (arith, ints)) a turns

  module _ (p p' s s' : ℤ) (p0 : pos 0 ≤ℤ p) (pp : p ≤ℤ p') (s0 : pos 0 ≤ℤ s) (ss : s ≤ℤ s') where
    corner : IsConvex (corner_piece w e g p p' s s')
    corner = four_convex (at w e p) (at w e p') (at w g s') (at w g s)
        (two_out p p' s' pp (omega (arith, ints))) (two_out p p' s pp s0)
        (two_in p s' s p0 ss) (two_in p' s' s (omega (arith, ints)) ss)

pub corner_convex : (w : Point) (e g : Vector) (p p' s s' : ℤ) → turning e g ≤ℤ pos 0 → pos 0 ≤ℤ p → p ≤ℤ p' → pos 0 ≤ℤ s → s ≤ℤ s' → IsConvex (corner_piece w e g p p' s s')
corner_convex w e g p p' s s' turns p0 pp s0 ss = corner w e g turns p p' s s' p0 pp s0 ss

-- a line that has two points not on its left has none between them there
right_between : (a b m last : Point) (h : Vector) (u n : ℤ) → at m h n ≡ last → pos 0 ≤ℤ u → u ≤ℤ n → pos 0 <ℤ n → Right a b m → Right a b last → Right a b (at m h u)
right_between a b m last h u n e u0 un n0 hm hl =
    let hl' : Right a b (at m h n) = subst (λ z. Right a b z) (sym e) hl in
    let x = mul_nonpos (n -ℤ u) (cross_of a b m) (omega (arith, ints)) hm in
    let y = mul_nonpos u (cross_of a b (at m h n)) u0 hl' in
    let s = side_changes_evenly a b m h u n in
    nonpos_from_mul n (cross_of a b (at m h u)) n0 (omega (arith, ints, x, y, s))

module _ (w : Point) (e g d : Vector) (n k l p q t s : ℤ) (h : HasMiddle w e g d n k l p q t s) (turns : turning e g ≤ℤ pos 0) where
  -- a point of the third leg lies between the ends of that leg
  third : (a b : Point) → Right a b (at w e n) → Right a b (at w g l) → Right a b (at (at w e n) d q)
  third a b i j = right_between a b (at w e n) (at w g l) d q k h.closes h.second_low h.second_high h.long i j

  n0 : pos 0 ≤ℤ n
  n0 = let a = h.first_low in let b = h.first_high in omega (arith, ints)

  t0 : pos 0 ≤ℤ t
  t0 = let a = h.near_low in let b = h.in_order in omega (arith, ints)

  l0 : pos 0 ≤ℤ l
  l0 = let a = t0 in let b = h.far_high in omega (arith, ints)

  sl : s ≤ℤ l
  sl = let a = h.in_order in let b = h.far_high in omega (arith, ints)

  same : (a : ℤ) → a ≤ℤ a
  same a = omega (arith, ints)

  -- a point of the second leg, one of the first, and one of the first beyond or the second beyond
  from_second : (x y z : ℤ) → pos 0 ≤ℤ x → y ≤ℤ z → Right (at w g x) (at w e y) (at w e z)
  from_second x y z a b = round (at w e z) (at w g x) (at w e y) (round (at w e y) (at w e z) (at w g x) (two_out w e g turns y z x b a))

  from_second_on : (x y z : ℤ) → x ≤ℤ z → pos 0 ≤ℤ y → Right (at w g x) (at w e y) (at w g z)
  from_second_on x y z a b = round (at w g z) (at w g x) (at w e y) (round (at w e y) (at w g z) (at w g x) (two_in w e g turns y z x b a))

  five : FiveRight (at w e p) (at w e n) (at (at w e n) d q) (at w g t) (at w g s)
  five = record {
    abc = third (at w e p) (at w e n) (stop (at w e p) (at w e n)) (two_out w e g turns p n l h.first_high l0);
    abd = two_out w e g turns p n t h.first_high t0;
    abe = two_out w e g turns p n s h.first_high h.near_low;
    acd = round (at w g t) (at w e p) (at (at w e n) d q) (third (at w g t) (at w e p) (from_second t p n t0 h.first_high) (from_second_on t p l h.far_high h.first_low));
    ace = round (at w g s) (at w e p) (at (at w e n) d q) (third (at w g s) (at w e p) (from_second s p n h.near_low h.first_high) (from_second_on s p l sl h.first_low));
    ade = two_in w e g turns p t s h.first_low h.in_order;
    bcd = round (at w g t) (at w e n) (at (at w e n) d q) (third (at w g t) (at w e n) (stop (at w g t) (at w e n)) (from_second_on t n l h.far_high n0));
    bce = round (at w g s) (at w e n) (at (at w e n) d q) (third (at w g s) (at w e n) (stop (at w g s) (at w e n)) (from_second_on s n l sl n0));
    bde = two_in w e g turns n t s n0 h.in_order;
    cde = round (at w g s) (at (at w e n) d q) (at w g t) (round (at w g t) (at w g s) (at (at w e n) d q) (third (at w g t) (at w g s) (round (at w e n) (at w g t) (at w g s) (two_in w e g turns n t s n0 h.in_order)) (one_leg w e g turns g t s l)));
  }

pub middle_convex : (w : Point) (e g d : Vector) (n k l p q t s : ℤ) → HasMiddle w e g d n k l p q t s → turning e g ≤ℤ pos 0 → IsConvex (middle_piece w e g d n p q t s)
middle_convex w e g d n k l p q t s h turns = five_convex (at w e p) (at w e n) (at (at w e n) d q) (at w g t) (at w g s) (five w e g d n k l p q t s h turns)

-- ---- the other way round, by the mirror that turns north into south

mirrored : Point → Point
mirrored a = record { x = a.x; y = neg_ℤ a.y }

flipped : Vector → Vector
flipped e = record { x = e.x; y = neg_ℤ e.y }

mirrored_at : (w : Point) (e : Vector) (t : ℤ) → at (mirrored w) (flipped e) t ≡ mirrored (at w e t)
unfolding mirrored flipped
mirrored_at w e t = ap (λ z. record { x = w.x +ℤ t *ℤ e.x; y = z }) (ring (Add (Neg (V w.y)) (Mul (V t) (Neg (V e.y)))) (Neg (Add (V w.y) (Mul (V t) (V e.y)))) (omega arith))

back_right : (a b c : Point) → Right (mirrored a) (mirrored b) (mirrored c) → Right c b a
unfolding mirrored
back_right a b c h =
    let e : cross_of (mirrored a) (mirrored b) (mirrored c) ≡ cross_of c b a = ring
    (Sub (Mul (Sub (V b.x) (V a.x)) (Sub (Neg (V c.y)) (Neg (V a.y)))) (Mul (Sub (Neg (V b.y)) (Neg (V a.y))) (Sub (V c.x) (V a.x))))
    (cross_of_poly c b a) (omega arith) in
    subst (λ z. z ≤ℤ pos 0) e h

module _ (w : Point) (e g d : Vector) (n k l p q t s : ℤ) (h : HasMiddle w e g d n k l p q t s) (turns : pos 0 ≤ℤ turning e g) where
  abbrev third_point : Point
  third_point = at (at w e n) d q

  mirrored_third : (u : ℤ) → at (at (mirrored w) (flipped e) n) (flipped d) u ≡ mirrored (at (at w e n) d u)
  mirrored_third u = ap (λ z. at z (flipped d) u) (mirrored_at w e n) ∙ mirrored_at (at w e n) d u

  mirrored_middle : HasMiddle (mirrored w) (flipped e) (flipped g) (flipped d) n k l p q t s
  mirrored_middle = record { closes = mirrored_third k ∙ ap mirrored h.closes ∙ sym (mirrored_at w g l); first_low = h.first_low; first_high = h.first_high; near_low = h.near_low; in_order = h.in_order; far_high = h.far_high; second_low = h.second_low; second_high = h.second_high; long = h.long }

  mirrored_turns : turning (flipped e) (flipped g) ≤ℤ pos 0
  unfolding flipped
  mirrored_turns =
      let z : turning (flipped e) (flipped g) ≡ neg_ℤ (turning e g) = ring (Sub (Mul (V e.x) (Neg (V g.y))) (Mul (Neg (V e.y)) (V g.x))) (Neg (turning_poly e g)) (omega arith) in
      omega (arith, ints, z)

  mirrored_five : FiveRight (mirrored (at w e p)) (mirrored (at w e n)) (mirrored third_point) (mirrored (at w g t)) (mirrored (at w g s))
  mirrored_five =
      let a = mirrored_at w e p in
      let b = mirrored_at w e n in
      let c = mirrored_third q in
      let u = mirrored_at w g t in
      let v = mirrored_at w g s in
      subst (λ z. FiveRight z (mirrored (at w e n)) (mirrored third_point) (mirrored (at w g t)) (mirrored (at w g s))) a
      (subst (λ z. FiveRight (at (mirrored w) (flipped e) p) z (mirrored third_point) (mirrored (at w g t)) (mirrored (at w g s))) b
      (subst (λ z. FiveRight (at (mirrored w) (flipped e) p) (at (mirrored w) (flipped e) n) z (mirrored (at w g t)) (mirrored (at w g s))) c
      (subst (λ z. FiveRight (at (mirrored w) (flipped e) p) (at (mirrored w) (flipped e) n) (at (at (mirrored w) (flipped e) n) (flipped d) q) z (mirrored (at w g s))) u
      (subst (λ z. FiveRight (at (mirrored w) (flipped e) p) (at (mirrored w) (flipped e) n) (at (at (mirrored w) (flipped e) n) (flipped d) q) (at (mirrored w) (flipped g) t) z) v
      (five (mirrored w) (flipped e) (flipped g) (flipped d) n k l p q t s mirrored_middle mirrored_turns)))))

  five_back : FiveRight (at w g s) (at w g t) third_point (at w e n) (at w e p)
  five_back =
      let f = mirrored_five in
      record {
        abc = back_right third_point (at w g t) (at w g s) f.cde;
        abd = back_right (at w e n) (at w g t) (at w g s) f.bde;
        abe = back_right (at w e p) (at w g t) (at w g s) f.ade;
        acd = back_right (at w e n) third_point (at w g s) f.bce;
        ace = back_right (at w e p) third_point (at w g s) f.ace;
        ade = back_right (at w e p) (at w e n) (at w g s) f.abe;
        bcd = back_right (at w e n) third_point (at w g t) f.bcd;
        bce = back_right (at w e p) third_point (at w g t) f.acd;
        bde = back_right (at w e p) (at w e n) (at w g t) f.abd;
        cde = back_right (at w e p) (at w e n) third_point f.abc;
      }

pub middle_convex_back : (w : Point) (e g d : Vector) (n k l p q t s : ℤ) → HasMiddle w e g d n k l p q t s → pos 0 ≤ℤ turning e g → IsConvex (reverse (middle_piece w e g d n p q t s))
middle_convex_back w e g d n k l p q t s h turns = five_convex (at w g s) (at w g t) (at (at w e n) d q) (at w e n) (at w e p) (five_back w e g d n k l p q t s h turns)

-- ---- a leg from its other end

pub leg_from_other_end : (w : Point) (e : Vector) (n t : ℤ) → at (at w e n) (opposite e) (n -ℤ t) ≡ at w e t
leg_from_other_end w e n t =
    let along : (a b : ℤ) → a +ℤ n *ℤ b +ℤ (n -ℤ t) *ℤ neg_ℤ b ≡ a +ℤ t *ℤ b = λ a b. ring (Add (Add (V a) (Mul (V n) (V b))) (Mul (Sub (V n) (V t)) (Neg (V b)))) (Add (V a) (Mul (V t) (V b))) (omega arith) in
    let x : (at (at w e n) (opposite e) (n -ℤ t)).x ≡ (at w e t).x = along w.x e.x in
    let y : (at (at w e n) (opposite e) (n -ℤ t)).y ≡ (at w e t).y = along w.y e.y in
    ap₂ both x y
  where
    both : ℤ → ℤ → Point
    both x y = record { x = x; y = y }
