-- From whole parts of magnitudes to floors, whole numbers and equal values.
use Rattle.std.proofs.Common.{◌≡◌, ℕ, zero, suc, ◌+◌, ◌-◌, ◌*◌, ◌/◌, ◌%◌, ◌^◌, ◌<◌, ◌≤◌, ◌↔◌, ℤ, pos, neg_ℤ, negsuc, Bool, true, false, not, ◌==◌, IsTrue, unsigned_abs, Some, None, IfSome, subst, cond, add-zero, refl, sym, ap, ◌∙◌, arith}
use Rattle.std.proofs.Math.Nat.{mul-le-mul_right, mul-le-mul, mul-div_cancel, lt-mul-div-succ, le-div_iff_mul-le, le_of_mul-le-mul_right}
use Rattle.std.proofs.lemmas.Nat.{pow-add, div-mul-add, mod-mul-add}
use Rattle.std.proofs.lemmas.Int.{ints}
use Rattle.std.proofs.lemmas.Bool.{false≢true}
use Rattle.std.proofs.lemmas.Bool.Decides.{nat_tests, Decides-int_eq, same_from_decides}
use Rattle.std.specs.Int.{int_div_euclid}
use Rattle.std.specs.Bool.{beq}
use Rattle.std.specs.Ordering.{int_eq}
use Rattle.exact_num.specs.Number.{Number, signed, magnitude}
use Rattle.exact_num.specs.Whole.{IsWholePart}
use Rattle.exact_num.specs.Value.{floor_at, whole_of, IsHuge, SameValue}
use Rattle.exact_num.proofs.Shifts.{one_tens}

-- a whole number
pub whole_only : (n up down q : ℕ) → down ≤ up → q ≡ n * 10 ^ (up - down) → IsWholePart (n * 10 ^ up) (10 ^ down) q false
whole_only n up down q le e =
    let powers : 10 ^ up ≡ 10 ^ down * 10 ^ (up - down) = (let all : up ≡ down + (up - down) = omega arith in ap (λ k. 10 ^ k) all ∙ pow-add 10 down (up - down)) in
    record { rest = 0; sum = rw (e, powers) (omega arith); small = one_tens down; tells = (λ h. absurd (false≢true h), λ h. absurd (omega arith)) }

pub whole_huge : (n up down m : ℕ) → down ≤ up → m ≤ n * 10 ^ (up - down) → m * 10 ^ down ≤ n * 10 ^ up
whole_huge n up down m le many =
    let powers : 10 ^ up ≡ 10 ^ down * 10 ^ (up - down) = (let all : up ≡ down + (up - down) = omega arith in ap (λ k. 10 ^ k) all ∙ pow-add 10 down (up - down)) in
    rw powers (omega (arith, mul-le-mul_right (10 ^ down) many))

pub part_scaled : (n up down q : ℕ) (left : Bool) → up ≤ down → IsWholePart n (10 ^ (down - up)) q left → IsWholePart (n * 10 ^ up) (10 ^ down) q left
part_scaled n up down q left le part =
    let powers : 10 ^ down ≡ 10 ^ up * 10 ^ (down - up) = (let all : down ≡ up + (down - up) = omega arith in ap (λ k. 10 ^ k) all ∙ pow-add 10 up (down - up)) in
    let some : 0 < 10 ^ up = one_tens up in
    record {
      rest = part.rest * 10 ^ up;
      sum = rw (powers, part.sum) (omega arith);
      small = rw powers (omega (arith, mul-le-mul_right {m = part.rest + 1} {n = 10 ^ (down - up)} (10 ^ up) (omega (arith, part.small))));
      tells = (λ h. omega (arith, mul-le-mul (part.tells.0 h) some), λ h. part.tells.1 (positive part.rest h));
    }
  where
    positive : (r : ℕ) → 0 < r * 10 ^ up → 0 < r
    positive zero h = absurd (omega arith)
    positive (suc r) h = omega arith

pub part_huge : (n up down q m : ℕ) (left : Bool) → up ≤ down → IsWholePart n (10 ^ (down - up)) q left → m ≤ q → m * 10 ^ down ≤ n * 10 ^ up
part_huge n up down q m left le part many =
    let powers : 10 ^ down ≡ 10 ^ up * 10 ^ (down - up) = (let all : down ≡ up + (down - up) = omega arith in ap (λ k. 10 ^ k) all ∙ pow-add 10 up (down - up)) in
    let below : m * 10 ^ (down - up) ≤ n = omega (arith, part.sum, mul-le-mul_right (10 ^ (down - up)) many) in
    rw powers (omega (arith, mul-le-mul_right (10 ^ up) below))

pub quotient_is : (n m q r : ℕ) → n ≡ q * m + r → r < m → n / m ≡ q
quotient_is n m q r e small = rw e (div-mul-add q m r small)

-- floors from whole parts
pub floor_up : (n m q : ℕ) (left : Bool) → IsWholePart n m q left → pos q ≡ int_div_euclid (signed false n) (pos m)
floor_up n m q left part = ap pos (sym (quotient_is n m q part.rest part.sum part.small))

exact : (n m q : ℕ) → (part : IsWholePart n m q false) → part.rest ≡ 0
exact n m q part = none part.rest part.tells where
  none : (r : ℕ) → (IsTrue false ↔ (0 < r)) → r ≡ 0
  none zero tells = refl
  none (suc r) tells = absurd (false≢true (tells.1 (omega arith)))

pub floor_down : (n m q : ℕ) → IsWholePart n m q false → neg_ℤ (pos q) ≡ int_div_euclid (signed true n) (pos m)
floor_down n m zero part = nothing n (omega (arith, part.sum, exact n m zero part)) where
  nothing : (n : ℕ) → n ≡ 0 → pos 0 ≡ int_div_euclid (signed true n) (pos m)
  nothing zero e = ap pos (sym (quotient_is 0 m 0 0 (omega arith) (omega (arith, part.small))))
  nothing (suc n) e = absurd (omega arith)
floor_down zero m (suc q) part = absurd (omega (arith, part.sum, part.small, mul-le-mul_right {m = 1} {n = suc q} m (omega arith)))
floor_down (suc n) m (suc q) part = ap negsuc (sym (quotient_is n m q (m - 1) (omega (arith, part.sum, part.small, exact (suc n) m (suc q) part)) (omega (arith, part.small))))

pub floor_below : (n m q : ℕ) → IsWholePart n m q true → negsuc q ≡ int_div_euclid (signed true n) (pos m)
floor_below zero m q part = absurd (omega (arith, part.sum, part.tells.0 refl))
floor_below (suc n) m q part = let some : 0 < part.rest = part.tells.0 refl in ap negsuc (sym (quotient_is n m q (part.rest - 1) (omega (arith, part.sum)) (omega (arith, part.small))))

pub not_huge : (n m q most : ℕ) (left : Bool) → IsWholePart n m q left → q < most → most * m ≤ n → ⊥
not_huge n m q most left part few huge = omega (arith, part.sum, part.small, mul-le-mul_right {m = q + 1} {n = most} m (omega arith))

pub at_zero : (d : Number) → magnitude d 0 ≡ d.digits * 10 ^ d.raised
at_zero d = ap (λ k. d.digits * 10 ^ k) (add-zero d.raised)

rest_is : (n m q r : ℕ) → n ≡ q * m + r → r < m → n % m ≡ r
rest_is n m q r e small = rw e (mod-mul-add q m r small)

-- a number with nothing left is whole
pub whole_of_all : (d : Number) (q : ℕ) → IsWholePart (d.digits * 10 ^ d.raised) (10 ^ d.lowered) q false → whole_of d ≡ Some (signed d.negative q)
unfolding whole_of
whole_of_all d q part =
    let whole : magnitude d 0 / 10 ^ d.lowered ≡ q = rw at_zero (quotient_is (d.digits * 10 ^ d.raised) (10 ^ d.lowered) q part.rest part.sum part.small) in
    let none : magnitude d 0 % 10 ^ d.lowered ≡ 0 = rw at_zero (rest_is (d.digits * 10 ^ d.raised) (10 ^ d.lowered) q part.rest part.sum part.small ∙ exact (d.digits * 10 ^ d.raised) (10 ^ d.lowered) q part) in
    rw (none, whole) refl

pub whole_of_left : (d : Number) (q : ℕ) → IsWholePart (d.digits * 10 ^ d.raised) (10 ^ d.lowered) q true → whole_of d ≡ None
unfolding whole_of
whole_of_left d q part =
    let rest : magnitude d 0 % 10 ^ d.lowered ≡ part.rest = rw at_zero (rest_is (d.digits * 10 ^ d.raised) (10 ^ d.lowered) q part.rest part.sum part.small) in
    let some : 0 < magnitude d 0 % 10 ^ d.lowered = omega (arith, rest, part.tells.0 refl) in
    missing (magnitude d 0 % 10 ^ d.lowered) some
  where
    missing : (r : ℕ) → 0 < r → cond (r == 0) (Some (signed d.negative (magnitude d 0 / 10 ^ d.lowered))) None ≡ None
    missing r some = grind (arith, nat_tests)

pub whole_small : (d : Number) (q : ℕ) (left : Bool) → IsWholePart (d.digits * 10 ^ d.raised) (10 ^ d.lowered) q left → q < 10 ^ 30 → IsHuge d 0 → ⊥
whole_small d q left part few huge = not_huge (d.digits * 10 ^ d.raised) (10 ^ d.lowered) q (10 ^ 30) left part few (rw at_zero at huge)

huge_part : (s : Bool) (n m : ℕ) → 0 < m → 10 ^ 30 * m ≤ n → 10 ^ 30 ≤ unsigned_abs (int_div_euclid (signed s n) (pos m))
huge_part false n m some huge = (le-div_iff_mul-le some).1 huge
huge_part true zero m some huge = absurd (omega arith)
huge_part true (suc n) m some huge = le_of_mul-le-mul_right (omega (arith, lt-mul-div-succ n some)) some

pub huge_floor : (d : Number) (places : ℕ) → IsHuge d places → 10 ^ 30 ≤ unsigned_abs (floor_at d places)
unfolding floor_at
huge_floor d places huge = huge_part d.negative (magnitude d places) (10 ^ d.lowered) (one_tens d.lowered) huge

-- a whole number past the greatest that is answered
whole_beyond : (b : Bool) (s : Bool) (q : ℕ) → 10 ^ 30 ≤ q → IfSome (cond b (Some (signed s q)) None) (λ z. 10 ^ 30 ≤ unsigned_abs z)
whole_beyond true false q h = h
whole_beyond true true zero h = h
whole_beyond true true (suc q) h = h
whole_beyond false s q h = tt

pub none_beyond : (d : Number) → whole_of d ≡ None → IfSome (whole_of d) (λ z. 10 ^ 30 ≤ unsigned_abs z)
none_beyond d e = subst (λ o. IfSome o (λ z. 10 ^ 30 ≤ unsigned_abs z)) (sym e) tt

pub huge_whole : (d : Number) → IsHuge d 0 → IfSome (whole_of d) (λ z. 10 ^ 30 ≤ unsigned_abs z)
unfolding whole_of
huge_whole d huge = whole_beyond (magnitude d 0 % 10 ^ d.lowered == 0) d.negative (magnitude d 0 / 10 ^ d.lowered) ((le-div_iff_mul-le (one_tens d.lowered)).1 huge)

-- equal values
signed_same : (s : Bool) (x y : ℕ) → signed s x ≡ signed s y → x ≡ y
signed_same false x y e = omega (arith, ints)
signed_same true x y e = omega (arith, ints)

cancel : (x y k : ℕ) → x * 10 ^ k ≡ y * 10 ^ k → x ≡ y
cancel x y k e = sym (mul-div_cancel x (one_tens k)) ∙ ap (λ n. n / 10 ^ k) e ∙ mul-div_cancel y (one_tens k)

pub same_shifted : (a b : Number) (k : ℕ) (r : Bool) → a.negative ≡ b.negative → a.raised + b.lowered ≡ b.raised + a.lowered + k → (IsTrue r ↔ (a.digits * 10 ^ k ≡ b.digits)) → IsTrue r ↔ SameValue a b
same_shifted a b k r signs sides tells =
    let powers : 10 ^ (a.raised + b.lowered) ≡ 10 ^ (b.raised + a.lowered) * 10 ^ k = ap (λ i. 10 ^ i) sides ∙ pow-add 10 (b.raised + a.lowered) k in (
      λ h. rw signs (ap (signed b.negative) (rw powers (omega (arith, ap (λ d. d * 10 ^ (b.raised + a.lowered)) (tells.0 h))))),
      λ h. tells.1 (cancel (a.digits * 10 ^ k) b.digits (b.raised + a.lowered) (omega (arith, rw powers at (signed_same b.negative (magnitude a b.lowered) (magnitude b a.lowered) (rw signs at h))))),
    )

pub same_swapped : (a b : Number) (r : Bool) → IsTrue r ↔ SameValue b a → IsTrue r ↔ SameValue a b
same_swapped a b r tells = (λ h. sym (tells.0 h), λ h. tells.1 (sym h))

opposite_zero : (s t : Bool) (x y : ℕ) → (s ≡ t → ⊥) → signed s x ≡ signed t y → (x ≡ 0) × (y ≡ 0)
opposite_zero false false x y differ e = absurd (differ refl)
opposite_zero true true x y differ e = absurd (differ refl)
opposite_zero false true x y differ e = (omega (arith, ints), omega (arith, ints))
opposite_zero true false x y differ e = (omega (arith, ints), omega (arith, ints))

pub no_value : (x k : ℕ) → x * 10 ^ k ≡ 0 → x ≡ 0
no_value zero k e = refl
no_value (suc x) k e = absurd (omega (arith, mul-le-mul_right {m = 1} {n = suc x} (10 ^ k) (omega arith), one_tens k))

pub same_zero : (a b : Number) (r : Bool) → (a.negative ≡ b.negative → ⊥) → (IsTrue r ↔ ((a.digits ≡ 0) × (b.digits ≡ 0))) → IsTrue r ↔ SameValue a b
same_zero a b r differ tells = (
  λ h. zeros a.negative b.negative (magnitude a b.lowered) (magnitude b a.lowered) (rw (tells.0 h).0 (omega arith)) (rw (tells.0 h).1 (omega arith)),
  λ h. (let nothing = opposite_zero a.negative b.negative (magnitude a b.lowered) (magnitude b a.lowered) differ h in
      tells.1 (no_value a.digits (a.raised + b.lowered) nothing.0, no_value b.digits (b.raised + a.lowered) nothing.1)),
) where
  none : (s : Bool) → signed s 0 ≡ pos 0
  none false = refl
  none true = refl

  zeros : (s t : Bool) (x y : ℕ) → x ≡ 0 → y ≡ 0 → signed s x ≡ signed t y
  zeros s t x y e f = rw (e, f) (none s ∙ sym (none t))

pub as_test : (r : Bool) (x y : ℤ) → (IsTrue r ↔ (x ≡ y)) → r ≡ int_eq x y
as_test r x y tells = same_from_decides r (int_eq x y) tells (Decides-int_eq x y)

pub differ : (s t : Bool) → not (beq s t) ≡ true → s ≡ t → ⊥
differ false false h e = false≢true h
differ false true h e = false≢true e
differ true false h e = false≢true (sym e)
differ true true h e = false≢true h

pub agree : (s t : Bool) → not (beq s t) ≡ false → s ≡ t
agree false false h = refl
agree false true h = absurd (false≢true (sym h))
agree true false h = absurd (false≢true (sym h))
agree true true h = refl
