-- Two lines that are in order at the heights of their ends are so in each strip that both span.
use Rattle.std.proofs.Common.{◌≡◌, ℤ, pos, neg_ℤ, ◌*ℤ◌, ◌≤ℤ◌, ◌<ℤ◌, int_le, Bool, true, false, cond, arith}
use Rattle.std.proofs.lemmas.Int.{ints}
use Rattle.plane_geom.specs.Geom.{cross_of}
use Rattle.plane_geom.specs.declared.Seg.{Seg}
use Rattle.plane_laws.proofs.Algebra.{mul_nonneg, mul_nonpos}
use Rattle.plane_strips.specs.SweepLaws.{GapAtLower, GapAtUpper, GapBack, OrderHoldsWithin}
use Rattle.plane_strips.specs.Strips.{upward, rise, gap}
use Rattle.cell_check.specs.Joints.{in_order_above, in_order_below, IsAhead}
use Rattle.cell_check.proofs.Rowing.{rises}

not_above : (c : ℤ) → int_le c (pos 0) ≡ true → c ≤ℤ pos 0
not_above c e = grind (arith, ints)

not_below : (c : ℤ) → int_le (pos 0) c ≡ true → pos 0 ≤ℤ c
not_below c e = grind (arith, ints)

-- g is minus a product of a factor above 0 and one that isn't above 0
from_right : (g r c : ℤ) → g ≡ neg_ℤ (r *ℤ c) → pos 0 <ℤ r → c ≤ℤ pos 0 → pos 0 ≤ℤ g
from_right g r c e h l = let m = mul_nonpos r c (omega (arith, ints)) l in omega (arith, ints)

-- g is minus a number that is minus a product of factors that aren't below 0
from_left : (g h r c : ℤ) → h ≡ neg_ℤ g → h ≡ neg_ℤ (r *ℤ c) → pos 0 <ℤ r → pos 0 ≤ℤ c → pos 0 ≤ℤ g
from_left g h r c e f p l = let m = mul_nonneg r c (omega (arith, ints)) l in omega (arith, ints)

-- a height at which s isn't east of t, and which is not above y
record InOrderBelow (s t : Seg) (y : ℤ) : Type 0 where
  at : ℤ
  below : at ≤ℤ y
  order : pos 0 ≤ℤ gap s t at

-- and one that is not below y
record InOrderAbove (s t : Seg) (y : ℤ) : Type 0 where
  at : ℤ
  above : y ≤ℤ at
  order : pos 0 ≤ℤ gap s t at

module _ (back : GapBack) (s t : Seg) (s0 : pos 0 <ℤ rise s) (t0 : pos 0 <ℤ rise t) where
  below : GapAtLower → (lo : ℤ) → (upward s).a.y ≤ℤ lo → (upward t).a.y ≤ℤ lo → in_order_below (upward s) (upward t) ≡ true → InOrderBelow s t lo
  below lower lo sl tl = by_test (int_le (upward s).a.y (upward t).a.y)
    where
      by_test : (b : Bool) → cond b (int_le (cross_of (upward s).a (upward s).b (upward t).a) (pos 0)) (int_le (pos 0) (cross_of (upward t).a (upward t).b (upward s).a)) ≡ true → InOrderBelow s t lo
      by_test true e = record { at = (upward t).a.y; below = tl; order = from_right (gap s t (upward t).a.y) (rise t) (cross_of (upward s).a (upward s).b (upward t).a) (lower s t) t0 (not_above (cross_of (upward s).a (upward s).b (upward t).a) e) }
      by_test false e = record { at = (upward s).a.y; below = sl; order = from_left (gap s t (upward s).a.y) (gap t s (upward s).a.y) (rise s) (cross_of (upward t).a (upward t).b (upward s).a) (back s t (upward s).a.y) (lower t s) s0 (not_below (cross_of (upward t).a (upward t).b (upward s).a) e) }

  above : GapAtUpper → (hi : ℤ) → hi ≤ℤ (upward s).b.y → hi ≤ℤ (upward t).b.y → in_order_above (upward s) (upward t) ≡ true → InOrderAbove s t hi
  above upper hi sl tl = by_test (int_le (upward t).b.y (upward s).b.y)
    where
      by_test : (b : Bool) → cond b (int_le (cross_of (upward s).a (upward s).b (upward t).b) (pos 0)) (int_le (pos 0) (cross_of (upward t).a (upward t).b (upward s).b)) ≡ true → InOrderAbove s t hi
      by_test true e = record { at = (upward t).b.y; above = tl; order = from_right (gap s t (upward t).b.y) (rise t) (cross_of (upward s).a (upward s).b (upward t).b) (upper s t) t0 (not_above (cross_of (upward s).a (upward s).b (upward t).b) e) }
      by_test false e = record { at = (upward s).b.y; above = sl; order = from_left (gap s t (upward s).b.y) (gap t s (upward s).b.y) (rise s) (cross_of (upward t).a (upward t).b (upward s).b) (back s t (upward s).b.y) (upper t s) s0 (not_below (cross_of (upward t).a (upward t).b (upward s).b) e) }

pub is_ahead : GapAtLower → GapAtUpper → GapBack → OrderHoldsWithin → (s t : Seg) → in_order_below (upward s) (upward t) ≡ true → in_order_above (upward s) (upward t) ≡ true → IsAhead s t
is_ahead lower upper back holds s t e f lo hi l sp tp =
    let low = below back s t (rises lo hi s l sp) (rises lo hi t l tp) lower lo sp.below tp.below e in
    let high = above back s t (rises lo hi s l sp) (rises lo hi t l tp) upper hi sp.above tp.above f in
    holds low.at high.at lo hi s t (omega (arith, ints, l, low.below, high.above)) low.below (omega (arith, ints, l)) high.above (record { low = low.order; high = high.order })
