-- Equations and signs of products of whole numbers.
use Rattle.std.proofs.Common.{◌≡◌, ℕ, ◌+◌, ◌*◌, ◌<◌, ℤ, pos, negsuc, ◌+ℤ◌, ◌-ℤ◌, ◌*ℤ◌, neg_ℤ, ◌≤ℤ◌, ◌<ℤ◌, ap, subst, sym, arith}
use Rattle.std.proofs.lemmas.Int.{ints, by_lt_z}
use Rattle.std.proofs.Math.Nat.{mul-pos}
use borrow.Author.Differences.{up, down, same_in}

-- an expression over whole numbers
pub data Poly : Type 0 where
  V : ℤ → Poly
  Add : Poly → Poly → Poly
  Sub : Poly → Poly → Poly
  Mul : Poly → Poly → Poly
  Neg : Poly → Poly

abbrev pub value : Poly → ℤ
value (V a) = a
value (Add p q) = value p +ℤ value q
value (Sub p q) = value p -ℤ value q
value (Mul p q) = value p *ℤ value q
value (Neg p) = neg_ℤ (value p)

-- an expression is the difference of two over natural numbers
abbrev mutual
  pub ups : Poly → ℕ
  ups (V a) = up a
  ups (Add p q) = ups p + ups q
  ups (Sub p q) = ups p + downs q
  ups (Mul p q) = ups p * ups q + downs p * downs q
  ups (Neg p) = downs p

  pub downs : Poly → ℕ
  downs (V a) = down a
  downs (Add p q) = downs p + downs q
  downs (Sub p q) = downs p + ups q
  downs (Mul p q) = ups p * downs q + downs p * ups q
  downs (Neg p) = ups p

-- an integer that is p - q and one that is r - s have this product
products : (a b : ℤ) (p q r s : ℕ) → up a + q ≡ down a + p → up b + s ≡ down b + r → up (a *ℤ b) + (p * s + q * r) ≡ down (a *ℤ b) + (p * r + q * s)
products a b p q r s e f =
    omega (arith, ints, ap (λ n. n * r) e, ap (λ n. n * s) e, ap (λ n. up a * n) f, ap (λ n. down a * n) f)

is : (p : Poly) → up (value p) + downs p ≡ down (value p) + ups p
is (V a) = omega arith
is (Add p q) = omega (arith, ints, is p, is q)
is (Sub p q) = omega (arith, ints, is p, is q)
is (Mul p q) = products (value p) (value q) (ups p) (downs p) (ups q) (downs q) (is p) (is q)
is (Neg p) = omega (arith, ints, is p)

-- two expressions are equal where they are once all products are multiplied out
pub ring : (p q : Poly) → ups p + downs q ≡ ups q + downs p → value p ≡ value q
ring p q e = same_in _ _ (omega (arith, is p, is q))

pub mul_nonneg : (a b : ℤ) → pos 0 ≤ℤ a → pos 0 ≤ℤ b → pos 0 ≤ℤ (a *ℤ b)
mul_nonneg (pos m) (pos n) h k = omega (arith, ints)
mul_nonneg (pos m) (negsuc n) h k = absurd (omega (arith, ints))
mul_nonneg (negsuc m) b h k = absurd (omega (arith, ints))

pub mul_pos : (a b : ℤ) → pos 0 <ℤ a → pos 0 <ℤ b → pos 0 <ℤ (a *ℤ b)
mul_pos (pos m) (pos n) h k = let p : 0 < m = omega (arith, ints) in let q : 0 < n = omega (arith, ints) in let r : 0 < m * n = mul-pos p q in omega (arith, ints)
mul_pos (pos m) (negsuc n) h k = absurd (omega (arith, ints))
mul_pos (negsuc m) b h k = absurd (omega (arith, ints))

times_neg : (a b : ℤ) → a *ℤ neg_ℤ b ≡ neg_ℤ (a *ℤ b)
times_neg a b = ring (Mul (V a) (Neg (V b))) (Neg (Mul (V a) (V b))) (omega arith)

pub mul_nonpos : (a b : ℤ) → pos 0 ≤ℤ a → b ≤ℤ pos 0 → (a *ℤ b) ≤ℤ pos 0
mul_nonpos a b h k =
    let p = mul_nonneg a (neg_ℤ b) h (omega (arith, ints)) in
    omega (arith, ints, p, times_neg a b)

pub mul_neg : (a b : ℤ) → pos 0 <ℤ a → b <ℤ pos 0 → (a *ℤ b) <ℤ pos 0
mul_neg a b h k =
    let p = mul_pos a (neg_ℤ b) h (omega (arith, ints)) in
    omega (arith, ints, p, times_neg a b)

-- a factor of a positive product
pub pos_from_mul : (a b : ℤ) → pos 0 ≤ℤ a → pos 0 <ℤ (a *ℤ b) → pos 0 <ℤ b
pos_from_mul a b h k = by_lt_z (pos 0) b (λ l. l) (λ l. absurd (omega (arith, ints, mul_nonpos a b h l, k)))

pub neg_from_mul : (a b : ℤ) → a ≤ℤ pos 0 → pos 0 <ℤ (a *ℤ b) → b <ℤ pos 0
neg_from_mul a b h k =
    let e : neg_ℤ a *ℤ neg_ℤ b ≡ a *ℤ b = ring (Mul (Neg (V a)) (Neg (V b))) (Mul (V a) (V b)) (omega arith) in
    let l = pos_from_mul (neg_ℤ a) (neg_ℤ b) (omega (arith, ints)) (subst (λ z. pos 0 <ℤ z) (sym e) k) in
    omega (arith, ints, l)

pub nonpos_from_mul : (a b : ℤ) → pos 0 <ℤ a → (a *ℤ b) ≤ℤ pos 0 → b ≤ℤ pos 0
nonpos_from_mul a b h k = by_lt_z (pos 0) b (λ l. absurd (omega (arith, ints, mul_pos a b h l, k))) (λ l. l)

-- of two numbers with equal positive multiples each has the sign of the other
pub record SameSign (x y : ℤ) : Type 0 where
  pub negative : y <ℤ pos 0 → x <ℤ pos 0
  pub not_negative : pos 0 ≤ℤ y → pos 0 ≤ℤ x
  pub positive : pos 0 <ℤ y → pos 0 <ℤ x
  pub not_positive : y ≤ℤ pos 0 → x ≤ℤ pos 0

pub same_sign : (n j x y : ℤ) → pos 0 <ℤ n → pos 0 <ℤ j → n *ℤ x ≡ j *ℤ y → SameSign x y
same_sign n j x y n0 j0 e = record {
  negative = λ h. by_lt_z x (pos 0) (λ l. l) (λ l. absurd (omega (arith, ints, e, mul_nonneg n x (omega (arith, ints)) l, mul_neg j y j0 h)));
  not_negative = λ h. by_lt_z x (pos 0) (λ l. absurd (omega (arith, ints, e, mul_neg n x n0 l, mul_nonneg j y (omega (arith, ints)) h))) (λ l. l);
  positive = λ h. by_lt_z (pos 0) x (λ l. l) (λ l. absurd (omega (arith, ints, e, mul_nonpos n x (omega (arith, ints)) l, mul_pos j y j0 h)));
  not_positive = λ h. by_lt_z (pos 0) x (λ l. absurd (omega (arith, ints, e, mul_pos n x n0 l, mul_nonpos j y (omega (arith, ints)) h))) (λ l. l);
}
