-- A floor is the greatest whole number that isn't above, and a whole number is worth itself.
use Rattle.std.proofs.Common.{◌≡◌, ℕ, zero, suc, ◌*◌, ◌/◌, ◌%◌, ◌^◌, ◌<◌, ◌≤◌, ◌↔◌, ℤ, pos, negsuc, ◌+ℤ◌, ◌*ℤ◌, ◌≤ℤ◌, ◌<ℤ◌, Bool, true, false, ◌==◌, Some, None, cond, refl, ap, ◌∙◌, arith}
use Rattle.std.proofs.Math.Nat.{div-mul-le_self, lt-div-mul-add, mul-le-mul_right, mul-div_cancel, mul-mod_left}
use Rattle.std.proofs.lemmas.Int.{ints}
use Rattle.std.proofs.lemmas.Bool.Decides.{nat_tests}
use Rattle.std.specs.Int.{int_div_euclid}
use Rattle.exact_num.specs.Number.{Number, signed, magnitude}
use Rattle.exact_num.specs.Value.{floor_at, whole_of, IsFloor, IsWhole}
use Rattle.exact_num.proofs.Shifts.{one_tens}

quotient_reached : (s : Bool) (n m : ℕ) → 0 < m → (int_div_euclid (signed s n) (pos m) *ℤ pos m) ≤ℤ signed s n
quotient_reached false n m some = omega (arith, ints, div-mul-le_self n m)
quotient_reached true zero m some = omega (arith, ints, div-mul-le_self 0 m)
quotient_reached true (suc n) m some = omega (arith, ints, lt-div-mul-add {a = n} some)

quotient_greatest : (s : Bool) (n m : ℕ) → 0 < m → signed s n <ℤ ((int_div_euclid (signed s n) (pos m) +ℤ pos 1) *ℤ pos m)
quotient_greatest false n m some = omega (arith, ints, lt-div-mul-add {a = n} some)
quotient_greatest true zero m some = omega (arith, ints, lt-div-mul-add {a = 0} some)
quotient_greatest true (suc n) m some = next (n / m) (div-mul-le_self n m) where
  next : (q : ℕ) → q * m ≤ n → signed true (suc n) <ℤ ((negsuc q +ℤ pos 1) *ℤ pos m)
  next zero h = omega (arith, ints)
  next (suc q) h = let up : negsuc (suc q) +ℤ pos 1 ≡ negsuc q = omega (arith, ints) in rw up (omega (arith, ints))

pub floor_greatest : (d : Number) (places : ℕ) → IsFloor d places (floor_at d places)
unfolding floor_at
floor_greatest d places = record {
  reached = quotient_reached d.negative (magnitude d places) (10 ^ d.lowered) (one_tens d.lowered);
  greatest = quotient_greatest d.negative (magnitude d places) (10 ^ d.lowered) (one_tens d.lowered);
}

signed_times : (s : Bool) (q m : ℕ) → signed s (q * m) ≡ (signed s q *ℤ pos m)
signed_times false q m = refl
signed_times true zero m = omega (arith, ints)
signed_times true (suc q) m = refl

worth : (s : Bool) (n m : ℕ) (z : ℤ) → 0 < m → cond (n % m == 0) (Some (signed s (n / m))) None ≡ Some z → signed s n ≡ (z *ℤ pos m)
worth s n m z some e = by_test (n % m == 0) (λ t. grind (arith, nat_tests)) e where
  by_test : (t : Bool) → (t ≡ true → n % m ≡ 0) → cond t (Some (signed s (n / m))) None ≡ Some z → signed s n ≡ (z *ℤ pos m)
  by_test false f e = cc
  by_test true f e =
      let is : signed s (n / m) ≡ z = cc in
      let exact : n ≡ n / m * m = omega (arith, f refl) in
      ap (signed s) exact ∙ signed_times s (n / m) m ∙ ap (λ w. w *ℤ pos m) is

whole_times : (s : Bool) (n m a : ℕ) → 0 < m → n ≡ a * m → cond (n % m == 0) (Some (signed s (n / m))) None ≡ Some (signed s a)
whole_times s n m a some e = rw (e, mul-mod_left a m, mul-div_cancel a some) refl

whole_if : (s : Bool) (n m : ℕ) (z : ℤ) → 0 < m → signed s n ≡ (z *ℤ pos m) → cond (n % m == 0) (Some (signed s (n / m))) None ≡ Some z
whole_if false n m (pos a) some e = whole_times false n m a some (omega (arith, ints, e))
whole_if true n m (pos zero) some e = whole_times true n m 0 some (omega (arith, ints, e))
whole_if true n m (pos (suc a)) some e = absurd (omega (arith, ints, e, mul-le-mul_right {m = 1} {n = suc a} m (omega arith)))
whole_if false n m (negsuc a) some e = absurd (omega (arith, ints, e, mul-le-mul_right {m = 1} {n = suc a} m (omega arith)))
whole_if true n m (negsuc a) some e = whole_times true n m (suc a) some (omega (arith, ints, e))

pub whole_worth : (d : Number) (z : ℤ) → (whole_of d ≡ Some z) ↔ IsWhole d z
unfolding whole_of
whole_worth d z = (worth d.negative (magnitude d 0) (10 ^ d.lowered) z (one_tens d.lowered), whole_if d.negative (magnitude d 0) (10 ^ d.lowered) z (one_tens d.lowered))
