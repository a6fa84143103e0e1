-- Texts of depths are short.
use Rattle.std.proofs.Common.{◌≡◌, ℕ, zero, suc, ◌/◌, ◌%◌, ◌==◌, ◌<◌, ◌≤◌, ⊎_elim, ℤ, pos, negsuc, neg_ℤ, ◌+ℤ◌, ◌≤ℤ◌, unsigned_abs, Bool, true, false, cond, Option, Some, None, List, ◌∷◌, ◌++◌, length, sym, ap, ◌∙◌, subst, arith}
use Rattle.std.specs.Fmt.{decimal, sign_text}
use Rattle.std.specs.Int.{int_max, is_negative}
use Rattle.std.specs.Prelude.{int_lt, nat_lt, slice_index_or, unwrap_or}
use Rattle.std.proofs.lemmas.Bool.{cases_lt}
use Rattle.std.proofs.lemmas.Int.{ints}
use Rattle.std.proofs.lemmas.Fmt.{length-decimal-le}
use Rattle.std.proofs.lemmas.List.{get_or_past, length-append}
use Rattle.built_parts.specs.Order.{AreEnds}
use Rattle.depth_rounding.specs.Bands.{AreLevels, deeper_end, level_at, shoaler_end}
use Rattle.exact_num.specs.Printed.{decimetres, metres}
use Rattle.shoal_buffer.specs.Charted.{AreShoaled, IsExtent, IsShoaledAt}
use Rattle.shoal_buffer.proofs.PickLemmas.{before_end}

-- ---- depths within 12,000 metres, or a decimetre more

pub record IsWithin (z : ℤ) : Type 0 where
  pub above : neg_ℤ (pos 120000) ≤ℤ z
  pub below : z ≤ℤ pos 120000

pub record IsNear (z : ℤ) : Type 0 where
  pub above : neg_ℤ (pos 120000) ≤ℤ z
  pub below : z ≤ℤ pos 120001

near : (z : ℤ) → IsWithin z → IsNear z
near z w = record { above = w.above; below = let h = w.below in omega (arith, ints, h) }

-- ---- their texts

metres_short : (n : ℕ) → n ≤ 120001 → length (metres n) ≤ 7
metres_short n few = by_test (n % 10 == 0)
  where
    whole : length (decimal (n / 10)) ≤ 5
    whole = length-decimal-le 5 (n / 10) (omega arith) (omega (arith, few)) (omega (arith, few))

    tenths : length (decimal (n % 10)) ≤ 1
    tenths = length-decimal-le 1 (n % 10) (omega arith) (omega arith) (omega arith)

    by_test : (t : Bool) → length (cond t (decimal (n / 10)) (decimal (n / 10) ++ (46 ∷ decimal (n % 10)))) ≤ 7
    by_test true = omega (arith, whole)
    by_test false = omega (arith, whole, tenths, length-append (decimal (n / 10)) (46 ∷ decimal (n % 10)))

sign_short : (b : Bool) → length (sign_text b) ≤ 1
sign_short true = omega arith
sign_short false = omega arith

size_near : (z : ℤ) → IsNear z → unsigned_abs z ≤ 120001
size_near (pos n) w = let h = w.below in omega (arith, ints, h)
size_near (negsuc n) w = let h = w.above in omega (arith, ints, h)

-- a sign, five digits, a point and a digit
pub depth_short : (z : ℤ) → IsNear z → length (decimetres z) ≤ 8
unfolding decimetres
depth_short z w = omega (arith, sign_short (is_negative z), metres_short (unsigned_abs z) (size_near z w), length-append (sign_text (is_negative z)) (metres (unsigned_abs z)))

-- ---- levels, and ends of bands

pub level_within : (levels : List ℤ) → AreLevels levels → (k : ℕ) → IsWithin (level_at levels k)
level_within levels are k = ⊎_elim
    (λ (l : k < length levels). record { above = let h = are.above k l in omega (arith, ints, h); below = let h = are.below k l in omega (arith, ints, h) })
    (λ (past : length levels ≤ k). subst IsWithin (sym (get_or_past levels k (pos 0) past)) zero_within)
    (cases_lt k (length levels))
  where
    zero_within : IsWithin (pos 0)
    zero_within = record { above = omega (arith, ints); below = omega (arith, ints) }

pub level_short : (levels : List ℤ) → AreLevels levels → (k : ℕ) → length (decimetres (level_at levels k)) ≤ 8
level_short levels are k = depth_short (level_at levels k) (near (level_at levels k) (level_within levels are k))

shoaler_within : (levels : List ℤ) (least : ℤ) → AreLevels levels → IsWithin least → (band : ℕ) → IsWithin (shoaler_end levels least band)
shoaler_within levels least are w zero = w
shoaler_within levels least are w (suc k) = level_within levels are k

pub shoaler_short : (levels : List ℤ) (least : ℤ) (band : ℕ) → AreLevels levels → IsWithin least → length (decimetres (shoaler_end levels least band)) ≤ 8
shoaler_short levels least band are w = depth_short (shoaler_end levels least band) (near (shoaler_end levels least band) (shoaler_within levels least are w band))

greater_near : (a b : ℤ) → IsWithin a → IsWithin b → IsNear (int_max a (b +ℤ pos 1))
greater_near a b v w = by_test (int_lt (b +ℤ pos 1) a)
  where
    by_test : (t : Bool) → IsNear (cond t a (b +ℤ pos 1))
    by_test true = near a v
    by_test false = record { above = let h = w.above in omega (arith, ints, h); below = let h = w.below in omega (arith, ints, h) }

pub deeper_short : (levels : List ℤ) (least greatest : ℤ) (band : ℕ) → AreLevels levels → IsWithin least → IsWithin greatest → length (decimetres (deeper_end levels least greatest band)) ≤ 8
deeper_short levels least greatest band are v w = depth_short (deeper_end levels least greatest band) (by_test (nat_lt band (length levels)))
  where
    by_test : (t : Bool) → IsNear (cond t (level_at levels band) (int_max greatest (shoaler_end levels least band +ℤ pos 1)))
    by_test true = near (level_at levels band) (level_within levels are band)
    by_test false = greater_near greatest (shoaler_end levels least band) w (shoaler_within levels least are v band)

-- ---- charted depths

same_depth : (x y : ℤ) → Some x ≡ Some y → x ≡ y
same_depth x y e = cc

-- a charted depth is within 12,000 metres
pub charted_within : (step_from steps : List ℤ) (opened charted : List (Option ℤ)) → AreShoaled step_from steps opened charted → (k : ℕ) (c : ℤ) → slice_index_or charted k None ≡ Some c → IsWithin c
charted_within step_from steps opened charted are k c is =
    let inside = before_end charted k c is in
    by_depth (slice_index_or opened k None) (are.each k (omega (arith, inside, are.full)))
  where
    by_depth : (d : Option ℤ) → IsShoaledAt step_from steps d (slice_index_or charted k None) → IsWithin c
    by_depth None none = cc (none, is)
    by_depth (Some mm) z =
        let same : z.0 ≡ c = same_depth z.0 c (sym z.1 ∙ is) in
        subst IsWithin same (record { above = z.2.above; below = z.2.below })

-- two depths as a pair
abbrev AreBoth : ℤ → ℤ → ℤ × ℤ → Type 0
AreBoth low high x = let ends : ℤ × ℤ = (low, high) in x ≡ ends

-- the least and the greatest charted depth are within 12,000 metres too, or 0
pub ends_within : (charted : List (Option ℤ)) (low high : ℤ) → ((k : ℕ) (c : ℤ) → slice_index_or charted k None ≡ Some c → IsWithin c) → AreEnds charted low high → IsWithin low × IsWithin high
ends_within charted low high within are = by_extent are.extent are.is are.ends
  where
    both : (x : ℤ × ℤ) → IsWithin x.0 → IsWithin x.1 → AreBoth low high x → IsWithin low × IsWithin high
    both x v w e = (subst IsWithin (ap (λ (z : ℤ × ℤ). z.0) e) v, subst IsWithin (ap (λ (z : ℤ × ℤ). z.1) e) w)

    by_extent : (e : Option (ℤ × ℤ)) → IsExtent charted e → AreBoth low high (unwrap_or e (pos 0, pos 0)) → IsWithin low × IsWithin high
    by_extent None none is = both (pos 0, pos 0) (record { above = omega (arith, ints); below = omega (arith, ints) }) (record { above = omega (arith, ints); below = omega (arith, ints) }) is
    by_extent (Some z) found is =
        let least = found.0.stands in
        let greatest = found.1.stands in
        both z (within least.0 z.0 least.1) (within greatest.0 z.1 greatest.1) is
