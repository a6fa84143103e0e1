-- Numbers in thousandths: their floors, and which of them have the same value.
use Rattle.std.proofs.Common.{◌≡◌, ℕ, zero, suc, ◌+◌, ◌-◌, ◌*◌, ◌/◌, ◌%◌, ◌^◌, ◌<◌, ◌≤◌, ◌↔◌, ℤ, pos, neg_ℤ, negsuc, Bool, true, false, not, nat_eq, IsTrue, unsigned_abs, Some, None, refl, sym, ap, ap₂, ◌∙◌, subst, arith, rules, lit<}
use Rattle.std.proofs.Math.Nat.{one-le-pow, pow-le-pow_right, mul-le-mul, mul-lt-mul_of_pos_right}
use Rattle.std.proofs.lemmas.Nat.{pow-add, div-mul-add}
use Rattle.std.proofs.lemmas.Int.{ints}
use Rattle.std.proofs.lemmas.Bool.{false≢true}
use Rattle.std.proofs.lemmas.Bool.Decides.{nat_tests, Decides-int_eq}
use Rattle.std.specs.Int.{int_div_euclid}
use Rattle.exact_num.specs.Number.{Number, signed, magnitude, scaled, opposite}
use Rattle.exact_num.specs.Whole.{IsWholePart}
use Rattle.exact_num.specs.Value.{floor_at, same_value, SameValue}
use Rattle.grid_reader.specs.declared.short.Thousandths.{Thousandths}
use Rattle.grid_reader.specs.declared.millimetres.NoDataFloor.{NoDataFloor}
use Rattle.grid_reader.specs.Marks.{Mark}
use Rattle.grid_reader.specs.Values.{is_nodata}
use Rattle.grid_reader.specs.Millimetres.{HasThousandths, IsMillimetres, TellsNoData}

-- a power of ten isn't zero
pub some_tens : (k : ℕ) → 0 < 10 ^ k
some_tens k = one-le-pow k 10 (lit< tt)

-- ---- whole parts

-- a remainder that isn't zero is left
pub rest_tells : (x : ℕ) → IsTrue (not (nat_eq x 0)) ↔ (0 < x)
rest_tells zero = (λ h. absurd (false≢true h), λ h. absurd (omega arith))
rest_tells (suc x) = (λ _. omega arith, λ _. search (rules, nat_tests))

-- a quotient is a whole part
part_of : (n m : ℕ) → 0 < m → IsWholePart n m (n / m) (not (nat_eq (n % m) 0))
part_of n m some = record { rest = n % m; sum = omega arith; small = omega arith; tells = rest_tells (n % m) }

-- a product with a positive number is positive where the other number is
positive : (r k : ℕ) → 0 < k → (0 < r) ↔ (0 < r * k)
positive zero k some = (λ h. absurd (omega arith), λ h. absurd (omega arith))
positive (suc r) k some = (λ _. omega (arith, some), λ _. omega arith)

-- a whole part stays where both numbers are multiplied by a third
part_times : (n m q k : ℕ) (left : Bool) → 0 < k → IsWholePart n m q left → IsWholePart (n * k) (m * k) q left
part_times n m q k left some part = record {
  rest = part.rest * k;
  sum = rw part.sum (omega arith);
  small = mul-lt-mul_of_pos_right part.small some;
  tells = (λ h. (positive part.rest k some).0 (part.tells.0 h), λ h. part.tells.1 ((positive part.rest k some).1 h));
}

-- with nothing left the whole part is all
nothing_left : (n m q : ℕ) → IsWholePart n m q false → n ≡ q * m
nothing_left n m q part = none part.rest part.tells part.sum
  where
    none : (r : ℕ) → (IsTrue false ↔ (0 < r)) → n ≡ q * m + r → n ≡ q * m
    none zero tells sum = omega (arith, sum)
    none (suc r) tells sum = absurd (false≢true (tells.1 (omega arith)))

-- ---- floors

-- the floor of a sign, a whole part and what is left
abbrev pub rounded : Bool → ℕ → Bool → ℤ
rounded false q left = pos q
rounded true q false = neg_ℤ (pos q)
rounded true q true = negsuc q

-- a quotient by its remainder
quotient_is : (n m q r : ℕ) → n ≡ q * m + r → r < m → n / m ≡ q
quotient_is n m q r e small = rw e (div-mul-add q m r small)

-- a floor by its whole part
floor_of_part : (s : Bool) (n m q : ℕ) (left : Bool) → IsWholePart n m q left → int_div_euclid (signed s n) (pos m) ≡ rounded s q left
floor_of_part false n m q left part = ap pos (quotient_is n m q part.rest part.sum part.small)
floor_of_part true zero m q true part = absurd (omega (arith, part.sum, part.tells.0 refl))
floor_of_part true (suc n) m q true part = let some : 0 < part.rest = part.tells.0 refl in ap negsuc (quotient_is n m q (part.rest - 1) (omega (arith, part.sum)) (omega (arith, part.small)))
floor_of_part true n m zero false part = at n (omega (arith, nothing_left n m zero part))
  where
    at : (n : ℕ) → n ≡ 0 → int_div_euclid (signed true n) (pos m) ≡ pos 0
    at zero e = ap pos (quotient_is 0 m 0 0 (omega arith) (omega (arith, part.small)))
    at (suc n) e = absurd (omega arith)
floor_of_part true zero m (suc q) false part = absurd (omega (arith, nothing_left 0 m (suc q) part, part.small))
floor_of_part true (suc n) m (suc q) false part = ap negsuc (quotient_is n m q (m - 1) (omega (arith, nothing_left (suc n) m (suc q) part, part.small)) (omega (arith, part.small)))

-- the floor of a number in thousandths
pub floor_is : (n : Number) (t : Thousandths) → HasThousandths n t → floor_at n 3 ≡ rounded t.negative t.whole t.left
unfolding floor_at
floor_is n t h = floor_of_part n.negative (magnitude n 3) (10 ^ n.lowered) t.whole t.left h.whole ∙ ap (λ s. rounded s t.whole t.left) h.sign

-- the floor of a positive number
pub rounded_above : (s : Bool) (q : ℕ) (left : Bool) → not s ≡ true → pos q ≡ rounded s q left
rounded_above false q left h = refl
rounded_above true q left h = absurd (false≢true h)

-- the floor of a negative number with something left
pub rounded_below : (s : Bool) (q : ℕ) (left : Bool) → not s ≡ false → left ≡ true → negsuc q ≡ rounded s q left
rounded_below false q left h e = absurd (false≢true (sym h))
rounded_below true q true h e = refl
rounded_below true q false h e = absurd (false≢true e)

-- the floor of a negative number with nothing left
pub rounded_exactly : (s : Bool) (q : ℕ) (left : Bool) → not s ≡ false → left ≡ false → neg_ℤ (pos q) ≡ rounded s q left
rounded_exactly false q left h e = absurd (false≢true (sym h))
rounded_exactly true q true h e = absurd (false≢true (sym e))
rounded_exactly true q false h e = refl

-- a floor with nothing left has the whole part under its sign
rounded_all : (s : Bool) (q : ℕ) → rounded s q false ≡ signed s q
rounded_all false q = refl
rounded_all true q = refl

-- a floor isn't far from zero
floor_near : (s : Bool) (q : ℕ) (left : Bool) → q ≤ 10 ^ 16 → unsigned_abs (rounded s q left) ≤ 10 ^ 18
floor_near false q left few = omega (arith, few)
floor_near true zero false few = omega arith
floor_near true (suc q) false few = omega (arith, few)
floor_near true q true few = omega (arith, few)

-- ---- equal values

-- zero under a sign
no_sign : (s : Bool) → signed s 0 ≡ pos 0
no_sign false = refl
no_sign true = refl

-- magnitudes that are zero are one value under all signs
zeros : (s t : Bool) (x y : ℕ) → x ≡ 0 → y ≡ 0 → signed s x ≡ signed t y
zeros s t x y e f = ap (signed s) e ∙ no_sign s ∙ sym (ap (signed t) f ∙ no_sign t)

-- equal values stay equal where both are multiplied
times_both : (s t : Bool) (x y k : ℕ) → signed s x ≡ signed t y → signed s (x * k) ≡ signed t (y * k)
times_both false false x y k e = let same : x ≡ y = omega (arith, ints, e) in ap (λ n. pos (n * k)) same
times_both true true x y k e = let same : x ≡ y = omega (arith, ints, e) in ap (λ n. signed true (n * k)) same
times_both false true x y k e = let a : x ≡ 0 = omega (arith, ints, e) in let b : y ≡ 0 = omega (arith, ints, e) in zeros false true (x * k) (y * k) (rw a (omega arith)) (rw b (omega arith))
times_both true false x y k e = let a : x ≡ 0 = omega (arith, ints, e) in let b : y ≡ 0 = omega (arith, ints, e) in zeros true false (x * k) (y * k) (rw a (omega arith)) (rw b (omega arith))

-- values are equal where their thousandfolds are
by_thousands : (s t : Bool) (x y : ℕ) → signed s (x * 1000) ≡ signed t (y * 1000) → signed s x ≡ signed t y
by_thousands false false x y e = omega (arith, ints, e)
by_thousands true true x y e = omega (arith, ints, e)
by_thousands false true x y e = omega (arith, ints, e)
by_thousands true false x y e = omega (arith, ints, e)

-- magnitudes at two powers, in whichever order
powers : (d : Number) (p q : ℕ) → magnitude d p * 10 ^ q ≡ magnitude d q * 10 ^ p
powers d p q = one (d.raised + p) q ∙ ap (λ k. d.digits * 10 ^ k) (omega arith) ∙ sym (one (d.raised + q) p)
  where
    one : (k q : ℕ) → d.digits * 10 ^ k * 10 ^ q ≡ d.digits * 10 ^ (k + q)
    one k q = rw (pow-add 10 k q) (omega arith)

-- a floor stays where both numbers are multiplied by a third
floor_times : (s : Bool) (n m k : ℕ) → 0 < m → 0 < k → int_div_euclid (signed s (n * k)) (pos (m * k)) ≡ int_div_euclid (signed s n) (pos m)
floor_times s n m k some more =
    let part = part_of n m some in
    floor_of_part s (n * k) (m * k) (n / m) (not (nat_eq (n % m) 0)) (part_times n m (n / m) k (not (nat_eq (n % m) 0)) more part)
    ∙ sym (floor_of_part s n m (n / m) (not (nat_eq (n % m) 0)) part)

-- equal values have the same floor
same_floors : (a b : Number) → SameValue a b → floor_at a 3 ≡ floor_at b 3
unfolding floor_at
same_floors a b same =
    let k : ℕ = 10 ^ a.lowered in
    let l : ℕ = 10 ^ b.lowered in
    let left : magnitude a 3 * l ≡ magnitude a b.lowered * 10 ^ 3 = powers a 3 b.lowered in
    let right : magnitude b 3 * k ≡ magnitude b a.lowered * 10 ^ 3 = powers b 3 a.lowered in
    let over : k * l ≡ l * k = omega arith in
    let both : signed a.negative (magnitude a 3 * l) ≡ signed b.negative (magnitude b 3 * k) =
    ap (signed a.negative) left ∙ times_both a.negative b.negative (magnitude a b.lowered) (magnitude b a.lowered) (10 ^ 3) same ∙ ap (signed b.negative) (sym right) in
    sym (floor_times a.negative (magnitude a 3) k l (some_tens a.lowered) (some_tens b.lowered))
    ∙ ap₂ (λ z n. int_div_euclid z (pos n)) both over
    ∙ floor_times b.negative (magnitude b 3) l k (some_tens b.lowered) (some_tens a.lowered)

-- numbers that are exactly as many thousandths have one value
same_exact : (a b : Number) (z : ℤ) → IsMillimetres a z → IsMillimetres b z → SameValue a b
same_exact a b z f g =
    let k : ℕ = 10 ^ a.lowered in
    let l : ℕ = 10 ^ b.lowered in
    let counts : signed a.negative f.count ≡ signed b.negative g.count = sym f.value ∙ g.value in
    let left : f.count * (k * l) ≡ magnitude a b.lowered * 1000 = omega (arith, ap (λ n. n * l) f.whole, powers a 3 b.lowered) in
    let right : g.count * (k * l) ≡ magnitude b a.lowered * 1000 = omega (arith, ap (λ n. n * k) g.whole, powers b 3 a.lowered) in
    by_thousands a.negative b.negative (magnitude a b.lowered) (magnitude b a.lowered)
    (ap (signed a.negative) (sym left) ∙ times_both a.negative b.negative f.count g.count (k * l) counts ∙ ap (signed b.negative) right)

-- a test that can't be true is false
not_true : (b : Bool) → (b ≡ true → ⊥) → b ≡ false
not_true true h = absurd (h refl)
not_true false h = refl

-- values with different floors differ
differ : (a b : Number) → (floor_at a 3 ≡ floor_at b 3 → ⊥) → same_value a b ≡ false
unfolding same_value
differ a b h = not_true (same_value a b) (λ e. h (same_floors a b ((Decides-int_eq (scaled a b.lowered) (scaled b a.lowered)).0 e)))

-- the test of equal values
alike : (a b : Number) → SameValue a b → same_value a b ≡ true
unfolding same_value
alike a b h = (Decides-int_eq (scaled a b.lowered) (scaled b a.lowered)).1 h

-- ---- the no-data value

-- a number whose opposite has the opposite floor is exactly its floor
pub exact_floor : (d : Number) (z : ℤ) → z ≡ floor_at d 3 → floor_at (opposite d) 3 ≡ neg_ℤ z → IsMillimetres d z
unfolding floor_at
exact_floor d z e f =
    let m : ℕ = 10 ^ d.lowered in
    let n : ℕ = magnitude d 3 in
    by_left (not (nat_eq (n % m) 0)) (part_of n m (some_tens d.lowered))
  where
    never : (s : Bool) (q : ℕ) → rounded (not s) q true ≡ neg_ℤ (rounded s q true) → ⊥
    never false q h = omega (arith, ints, h)
    never true q h = omega (arith, ints, h)

    by_left : (left : Bool) → IsWholePart (magnitude d 3) (10 ^ d.lowered) (magnitude d 3 / 10 ^ d.lowered) left → IsMillimetres d z
    by_left true part =
        let q = magnitude d 3 / 10 ^ d.lowered in
        absurd (never d.negative q (
        sym (floor_of_part (not d.negative) (magnitude d 3) (10 ^ d.lowered) q true part) ∙ f
        ∙ ap neg_ℤ (e ∙ floor_of_part d.negative (magnitude d 3) (10 ^ d.lowered) q true part)
        ))
    by_left false part =
        let q = magnitude d 3 / 10 ^ d.lowered in
        record { count = q; value = e ∙ floor_of_part d.negative (magnitude d 3) (10 ^ d.lowered) q false part ∙ rounded_all d.negative q; whole = nothing_left (magnitude d 3) (10 ^ d.lowered) q part }

-- thousandths with nothing left are exact
exact_number : (n : Number) (t : Thousandths) → HasThousandths n t → t.left ≡ false → IsMillimetres n (rounded t.negative t.whole t.left)
exact_number n t h none =
    let part : IsWholePart (magnitude n 3) (10 ^ n.lowered) t.whole false = subst (IsWholePart (magnitude n 3) (10 ^ n.lowered) t.whole) none h.whole in
    record { count = t.whole; value = ap (rounded t.negative t.whole) none ∙ ap (λ s. rounded s t.whole false) (sym h.sign) ∙ rounded_all n.negative t.whole; whole = nothing_left (magnitude n 3) (10 ^ n.lowered) t.whole part }

-- where nothing tells the no-data value, no short number is no data
pub never_missing : (mark : Mark) (n : Number) (t : Thousandths) → TellsNoData mark None → HasThousandths n t → is_nodata mark n ≡ false
never_missing None n t tells h = refl
never_missing (Some m) n t tells h =
    let near = floor_near t.negative t.whole t.left h.few in
    differ m n (λ e. omega (arith, tells, ap unsigned_abs (e ∙ floor_is n t h), near))

-- a number with another floor than the no-data value isn't it
pub not_missing : (mark : Mark) (n : Number) (t : Thousandths) (f : NoDataFloor) → TellsNoData mark (Some f) → HasThousandths n t → (floor_at n 3 ≡ f.millimetres → ⊥) → is_nodata mark n ≡ false
not_missing None n t f tells h apart = refl
not_missing (Some m) n t f tells h apart = differ m n (λ e. apart (sym e ∙ sym tells.0))

-- a number that is exactly as many millimetres as the no-data value is it
pub missing : (mark : Mark) (n : Number) (t : Thousandths) (f : NoDataFloor) → TellsNoData mark (Some f) → HasThousandths n t → floor_at n 3 ≡ f.millimetres → f.exact ≡ true → t.left ≡ false → is_nodata mark n ≡ true
missing None n t f tells h same exact none = absurd tells
missing (Some m) n t f tells h same exact none =
    let is : IsMillimetres n f.millimetres = subst (IsMillimetres n) (sym (floor_is n t h) ∙ same) (exact_number n t h none) in
    alike m n (same_exact m n f.millimetres (tells.1 exact) is)

-- ---- short words

-- digits of which the last stand behind the thousandths
pub many_places : (digits last whole : ℕ) (left : Bool) → IsWholePart digits (10 ^ last) whole left → IsWholePart (digits * 10 ^ 3) (10 ^ (3 + last)) whole left
many_places digits last whole left part =
    let tens : 10 ^ last * 10 ^ 3 ≡ 10 ^ (3 + last) = (let all : last + 3 ≡ 3 + last = omega arith in sym (pow-add 10 last 3) ∙ ap (λ k. 10 ^ k) all) in
    subst (λ m. IsWholePart (digits * 10 ^ 3) m whole left) tens (part_times digits (10 ^ last) whole (10 ^ 3) left (some_tens 3) part)

-- digits with at most three behind the point
pub few_places : (digits places up : ℕ) → places + up ≡ 3 → IsWholePart (digits * 10 ^ 3) (10 ^ places) (digits * 10 ^ up) false
few_places digits places up all =
    let tens : 10 ^ 3 ≡ 10 ^ places * 10 ^ up = ap (λ k. 10 ^ k) (sym all) ∙ pow-add 10 places up in
    record { rest = 0; sum = rw tens (omega arith); small = some_tens places; tells = (λ h. absurd (false≢true h), λ h. absurd (omega arith)) }

-- a number of few digits is small
pub below_tens : (n k m : ℕ) → n < 10 ^ k → k ≤ m → n < 10 ^ m
below_tens n k m h few = let more : 10 ^ k ≤ 10 ^ m = pow-le-pow_right (lit< tt) few in omega (arith, h, more)

-- its thousandths are few
pub few_times : (digits k up : ℕ) → digits < 10 ^ k → k ≤ 13 → up ≤ 3 → digits * 10 ^ up ≤ 10 ^ 16
few_times digits k up h short few =
    let unit : 10 ^ up ≤ 10 ^ 3 = pow-le-pow_right (lit< tt) few in
    let most : digits ≤ 10 ^ 13 = omega (arith, below_tens digits k 13 h short) in
    omega (arith, mul-le-mul most unit)
