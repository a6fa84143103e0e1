-- Numbers of two halves, shifted by powers of ten. A half has the base b, which is t * r.
use Rattle.std.proofs.Common.{◌≡◌, ℕ, ◌+◌, ◌-◌, ◌*◌, ◌/◌, ◌%◌, ◌^◌, ◌<◌, ◌≤◌, Bool, true, false, not, nat_eq, IsTrue, ◌↔◌, zero, suc, refl, sym, ap, ◌∙◌, arith, lit<, rules, ◌||◌}
use Rattle.std.proofs.Math.Nat.{pow-le-pow_right, one-le-pow, mul-le-mul_right, mul-lt-mul_of_pos_right, mul-le-mul, div-lt_iff_lt-mul}
use Rattle.std.proofs.lemmas.Nat.{pow-add}
use Rattle.std.proofs.lemmas.Bool.{false≢true}
use Rattle.std.proofs.lemmas.Bool.Decides.{nat_tests}
use Rattle.exact_num.specs.Whole.{IsWholePart}

pub one_tens : (k : ℕ) → 0 < 10 ^ k
one_tens k = one-le-pow k 10 (lit< tt)

pub few_tens : (k m : ℕ) → k ≤ m → 10 ^ k ≤ 10 ^ m
few_tens k m few = pow-le-pow_right (lit< tt) few

pub next_ten : (k j : ℕ) → j ≡ k + 1 → 10 ^ j ≡ 10 ^ k * 10
next_ten k j e = ap (λ n. 10 ^ n) e ∙ pow-add 10 k 1

-- two powers make up a half
pub tens_room : (k : ℕ) → k ≤ 32 → 10 ^ k * 10 ^ (32 - k) ≡ 10 ^ 32
tens_room k few = let whole : k + (32 - k) ≡ 32 = omega arith in sym (pow-add 10 k (32 - k)) ∙ ap (λ n. 10 ^ n) whole

pub below_times : (a b c : ℕ) → a < b → 0 < c → a * c < b * c
below_times a b c h p = mul-lt-mul_of_pos_right h p

pub quotient_below : (l t r : ℕ) → 0 < r → l < t * r → l / r < t
quotient_below l t r p h = (div-lt_iff_lt-mul p).1 h

pub carry_value : (h l t r b : ℕ) → t * r ≡ b → 0 < r → (h * t + l / r) * b + l % r * t ≡ (h * b + l) * t
carry_value h l t r b e p =
    let split : l ≡ r * (l / r) + l % r = omega arith in
    ring (l / r) (l % r) split where
      ring : (q m : ℕ) → l ≡ r * q + m → (h * t + q) * b + m * t ≡ (h * b + l) * t
      ring q m s = rw (s, sym e) (omega arith)

pub carry_high : (h l t r b : ℕ) → t * r ≡ b → 0 < r → h < r → l < b → h * t + l / r < b
carry_high h l t r b e p small low =
    omega (arith, mul-le-mul_right {m = h + 1} {n = r} t (omega arith), quotient_below l t r p (rw e low))

pub carry_low : (l t r b : ℕ) → t * r ≡ b → 0 < r → 0 < t → l % r * t < b
carry_low l t r b e p q = let below : l % r < r = omega arith in omega (arith, below_times (l % r) r t below q)

pub drop_value : (h l t r b : ℕ) → t * r ≡ b → 0 < t → h * b + l ≡ (h / t * b + (h % t * r + l / t)) * t + l % t
drop_value h l t r b e p =
    let high : h ≡ t * (h / t) + h % t = omega arith in
    let low : l ≡ t * (l / t) + l % t = omega arith in
    ring (h / t) (h % t) (l / t) (l % t) high low where
      ring : (q m u v : ℕ) → h ≡ t * q + m → l ≡ t * u + v → h * b + l ≡ (q * b + (m * r + u)) * t + v
      ring q m u v s z = rw (s, z, sym e) (omega arith)

pub drop_low : (h l t r b : ℕ) → t * r ≡ b → 0 < t → l < b → h % t * r + l / t < b
drop_low h l t r b e p low =
    let below : h % t < t = omega arith in
    omega (arith, mul-le-mul_right {m = h % t + 1} {n = t} r (omega arith), quotient_below l r t p (omega (arith, e, low)))

pub carry_none : (n h l t r b : ℕ) → h * b + l ≡ n → t * r ≡ b → r ≤ h → b * b ≤ n * t
carry_none n h l t r b is e many =
    let rows : r * (t * b) ≤ h * (t * b) = mul-le-mul_right (t * b) many in
    rw (sym is, sym e) (omega (arith, rw (sym e) at rows))

pub rest_tells : (x : ℕ) → IsTrue (not (nat_eq x 0)) ↔ (0 < x)
rest_tells zero = (λ h. absurd (false≢true h), λ h. absurd (omega arith))
rest_tells (suc x) = (λ _. omega arith, λ _. search (rules, nat_tests))

-- what a product lacks is left
pub left_tells : (x y r : ℕ) → x + r ≡ y → IsTrue (not (nat_eq x y)) ↔ (0 < r)
left_tells x y r e = (λ h. more r e h, λ h. grind (arith, nat_tests)) where
  more : (r : ℕ) → x + r ≡ y → not (nat_eq x y) ≡ true → 0 < r
  more r e h = grind (arith, nat_tests)

-- the whole part of a number of two halves
pub part_of_halves : (n h l t r p : ℕ) → h * 10 ^ 32 + l ≡ n → t ≡ p → t * r ≡ 10 ^ 32 → 0 < t
    → IsWholePart n p (h / t * 10 ^ 32 + (h % t * r + l / t)) (not (nat_eq (l / t * t) l))
part_of_halves n h l t r p is tens e some = rw (← tens, ← is) record {
  rest = l % t;
  sum = drop_value h l t r (10 ^ 32) e some;
  small = omega arith;
  tells = left_tells (l / t * t) l (l % t) (omega arith);
}

pub part_of_low : (n h l t p : ℕ) → h * 10 ^ 32 + l ≡ n → h ≡ 0 → t ≡ p → 0 < t → IsWholePart n p (0 * 10 ^ 32 + l / t) (not (nat_eq (l / t * t) l))
part_of_low n h l t p is none tens some = rw (← tens, ← is, none) record {
  rest = l % t;
  sum = omega arith;
  small = omega arith;
  tells = left_tells (l / t * t) l (l % t) (omega arith);
}

-- a power beyond a half is a half and the rest
pub beyond_half : (k : ℕ) → 32 ≤ k → 10 ^ k ≡ 10 ^ 32 * 10 ^ (k - 32)
beyond_half k many = let whole : k ≡ 32 + (k - 32) = omega arith in ap (λ n. 10 ^ n) whole ∙ pow-add 10 32 (k - 32)

pub huge_times : (n k j m : ℕ) → 10 ^ j ≤ n → m ≤ k → 10 ^ (j + m) ≤ n * 10 ^ k
huge_times n k j m many far = rw (pow-add 10 j m) (mul-le-mul many (few_tens m k far))

-- the number's own power of a moved half
pub moved_times : (n h l k : ℕ) → h * 10 ^ 32 + l ≡ n → h ≡ 0 → 32 ≤ k → (l * 10 ^ 32 + 0) * 10 ^ (k - 32) ≡ n * 10 ^ k
moved_times n h l k is none far = rw (← is, none, beyond_half k far) (omega arith)

-- the whole part of the upper half is that of the number, and the lower half is left
pub moved_part : (n h l q k : ℕ) (left more : Bool) → h * 10 ^ 32 + l ≡ n → l < 10 ^ 32 → 32 ≤ k → IsWholePart (0 * 10 ^ 32 + h) (10 ^ (k - 32)) q left
    → more ≡ (left || not (nat_eq l 0)) → IsWholePart n (10 ^ k) q more
moved_part n h l q k left more is low far part more_is = rw (← is, beyond_half k far) record {
  rest = part.rest * 10 ^ 32 + l;
  sum = omega (arith, part.sum);
  small = omega (arith, mul-le-mul_right {m = part.rest + 1} {n = 10 ^ (k - 32)} (10 ^ 32) (omega (arith, part.small)));
  tells = rw more_is (either left part.tells);
} where
  either : (b : Bool) → (IsTrue b ↔ (0 < part.rest)) → IsTrue (b || not (nat_eq l 0)) ↔ (0 < part.rest * 10 ^ 32 + l)
  either true t = (λ _. omega (arith, t.0 refl), λ _. refl)
  either false t = (λ h. omega (arith, (rest_tells l).0 h), λ h. (rest_tells l).1 (nonzero (part.rest) t h))
    where
      nonzero : (r : ℕ) → (IsTrue false ↔ (0 < r)) → 0 < r * 10 ^ 32 + l → 0 < l
      nonzero zero t h = omega arith
      nonzero (suc r) t h = absurd (false≢true (t.1 (omega arith)))

pub nothing_left : (n h l k : ℕ) (more : Bool) → h * 10 ^ 32 + l ≡ n → h < 10 ^ 32 → l < 10 ^ 32 → 64 < k → IsTrue more ↔ (0 < n) → IsWholePart n (10 ^ k) 0 more
nothing_left n h l k more is high low far tells = record { rest = n; sum = omega arith; small = omega (arith, few_tens 64 k (omega arith)); tells = tells }
