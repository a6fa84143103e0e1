-- Which of two numbers is less, by their magnitudes and signs.
use Rattle.std.proofs.Common.{◌≡◌, ℕ, zero, suc, ◌+◌, ◌*◌, ◌^◌, ◌<◌, ◌↔◌, ℤ, ◌<ℤ◌, int_lt, Bool, true, false, not, IsTrue, refl, sym, ap, ◌∙◌, subst, ◌⊎◌, ⊎_elim, inl, inr, arith}
use Rattle.std.proofs.Math.Nat.{lt_of_mul-lt-mul_right}
use Rattle.std.proofs.lemmas.Nat.{pow-add}
use Rattle.std.proofs.lemmas.Int.{ints, by_lt_z}
use Rattle.std.proofs.lemmas.Bool.{false≢true}
use Rattle.std.proofs.lemmas.Bool.Decides.{same_from_decides}
use Rattle.exact_num.specs.Number.{Number, signed, magnitude, scaled}
use Rattle.exact_num.specs.Value.{LessValue, SameValue, less_value}
use Rattle.exact_num.proofs.Shifts.{one_tens, below_times}
use Rattle.exact_num.proofs.Values.{no_value}

-- an order stays where both sides are multiplied by a power of ten
times_tens : (x y k : ℕ) → (x < y) ↔ (x * 10 ^ k < y * 10 ^ k)
times_tens x y k = (λ h. below_times x y (10 ^ k) h (one_tens k), λ h. lt_of_mul-lt-mul_right (10 ^ k) h)

joined : {P Q R : Type 0} → P ↔ Q → Q ↔ R → P ↔ R
joined f g = (λ p. g.0 (f.0 p), λ r. f.1 (g.1 r))

back : {P Q : Type 0} → P ↔ Q → Q ↔ P
back f = (f.1, f.0)

pub smaller_up : (a b : Number) (k : ℕ) (r : Bool) → a.raised + b.lowered ≡ b.raised + a.lowered + k → (IsTrue r ↔ (a.digits * 10 ^ k < b.digits)) → IsTrue r ↔ (magnitude a b.lowered < magnitude b a.lowered)
smaller_up a b k r sides tells =
    let powers : a.digits * 10 ^ k * 10 ^ (b.raised + a.lowered) ≡ a.digits * 10 ^ (a.raised + b.lowered) = rw (ap (λ i. 10 ^ i) sides ∙ pow-add 10 (b.raised + a.lowered) k) (omega arith) in
    subst (λ n. IsTrue r ↔ (n < b.digits * 10 ^ (b.raised + a.lowered))) powers (joined tells (times_tens (a.digits * 10 ^ k) b.digits (b.raised + a.lowered)))

pub smaller_down : (a b : Number) (k : ℕ) (r : Bool) → b.raised + a.lowered ≡ a.raised + b.lowered + k → (IsTrue r ↔ (a.digits < b.digits * 10 ^ k)) → IsTrue r ↔ (magnitude a b.lowered < magnitude b a.lowered)
smaller_down a b k r sides tells =
    let powers : b.digits * 10 ^ k * 10 ^ (a.raised + b.lowered) ≡ b.digits * 10 ^ (b.raised + a.lowered) = rw (ap (λ i. 10 ^ i) sides ∙ pow-add 10 (a.raised + b.lowered) k) (omega arith) in
    subst (λ n. IsTrue r ↔ (a.digits * 10 ^ (a.raised + b.lowered) < n)) powers (joined tells (times_tens a.digits (b.digits * 10 ^ k) (a.raised + b.lowered)))

-- ---- signs

above : (x y : ℕ) → (x < y) ↔ (signed false x <ℤ signed false y)
above x y = (λ h. omega (arith, ints, h), λ h. omega (arith, ints, h))

below : (x y : ℕ) → (y < x) ↔ (signed true x <ℤ signed true y)
below x y = (λ h. omega (arith, ints, h), λ h. omega (arith, ints, h))

apart : (x y : ℕ) → (((x ≡ 0) × (y ≡ 0)) → ⊥) ↔ (signed true x <ℤ signed false y)
apart zero zero = (λ h. absurd (h (refl, refl)), λ h e. absurd (omega (arith, ints, h)))
apart zero (suc y) = (λ h. omega (arith, ints), λ h e. omega (arith, e.1))
apart (suc x) y = (λ h. omega (arith, ints), λ h e. omega (arith, e.0))

-- a magnitude is zero exactly where the digits are
zeros : (a b : Number) → (((a.digits ≡ 0) × (b.digits ≡ 0)) → ⊥) ↔ (((magnitude a b.lowered ≡ 0) × (magnitude b a.lowered ≡ 0)) → ⊥)
zeros a b = (
  λ h e. h (no_value a.digits (a.raised + b.lowered) e.0, no_value b.digits (b.raised + a.lowered) e.1),
  λ h e. h (nothing a.digits (a.raised + b.lowered) e.0, nothing b.digits (b.raised + a.lowered) e.1),
)
  where
    nothing : (x k : ℕ) → x ≡ 0 → x * 10 ^ k ≡ 0
    nothing x k e = rw e (omega arith)

-- the signs of both numbers are these
abbrev HaveSigns : Number → Number → Bool → Bool → Type 0
HaveSigns a b s t = (a.negative ≡ s) × (b.negative ≡ t)

-- what a test tells of the magnitudes under signs, it tells of the numbers
under : (a b : Number) (r : Bool) (s t : Bool) → HaveSigns a b s t → (IsTrue r ↔ (signed s (magnitude a b.lowered) <ℤ signed t (magnitude b a.lowered))) → IsTrue r ↔ LessValue a b
under a b r s t e tells = rw (e.0, e.1) tells

pub both_above : (a b : Number) (r : Bool) → HaveSigns a b false false → (IsTrue r ↔ (magnitude a b.lowered < magnitude b a.lowered)) → IsTrue r ↔ LessValue a b
both_above a b r e tells = under a b r false false e (joined tells (above (magnitude a b.lowered) (magnitude b a.lowered)))

pub both_below : (a b : Number) (r : Bool) → HaveSigns a b true true → (IsTrue r ↔ (magnitude b a.lowered < magnitude a b.lowered)) → IsTrue r ↔ LessValue a b
both_below a b r e tells = under a b r true true e (joined tells (below (magnitude a b.lowered) (magnitude b a.lowered)))

not_true : {P : Type 0} (r : Bool) → (IsTrue r ↔ P) → IsTrue (not r) ↔ (P → ⊥)
not_true true tells = (λ h. absurd (false≢true h), λ h. absurd (h (tells.0 refl)))
not_true false tells = (λ h p. false≢true (tells.1 p), λ h. refl)

pub below_above : (a b : Number) (r : Bool) → HaveSigns a b true false → (IsTrue r ↔ ((a.digits ≡ 0) × (b.digits ≡ 0))) → IsTrue (not r) ↔ LessValue a b
below_above a b r e tells = under a b (not r) true false e (joined (not_true r tells) (joined (zeros a b) (apart (magnitude a b.lowered) (magnitude b a.lowered))))

never : (x y : ℕ) → (signed false x <ℤ signed true y) → ⊥
never x zero h = omega (arith, ints, h)
never x (suc y) h = omega (arith, ints, h)

pub above_below : (a b : Number) → HaveSigns a b false true → IsTrue false ↔ LessValue a b
above_below a b e = under a b false false true e (λ h. absurd (false≢true h), λ h. absurd (never (magnitude a b.lowered) (magnitude b a.lowered) h))

pub as_test : (a b : Number) (r : Bool) → (IsTrue r ↔ LessValue a b) → r ≡ less_value a b
unfolding less_value
as_test a b r tells = same_from_decides r (less_value a b) tells (decides _ _)
  where
    decides : (x y : ℤ) → IsTrue (int_lt x y) ↔ (x <ℤ y)
    decides x y = (λ h. grind (arith, ints), λ h. grind (arith, ints))

-- ---- the order of all numbers

-- an order of magnitudes under signs stays where both are multiplied by a power of ten
scaled_alike : (s t : Bool) (x y k : ℕ) → (signed s x <ℤ signed t y) ↔ (signed s (x * 10 ^ k) <ℤ signed t (y * 10 ^ k))
scaled_alike false false x y k = joined (back (above x y)) (joined (times_tens x y k) (above (x * 10 ^ k) (y * 10 ^ k)))
scaled_alike true true x y k = joined (back (below x y)) (joined (times_tens y x k) (below (x * 10 ^ k) (y * 10 ^ k)))
scaled_alike true false x y k = joined (back (apart x y)) (joined (λ h e. h (no_value x k e.0, no_value y k e.1), λ h e. h (rw e.0 (omega arith), rw e.1 (omega arith))) (apart (x * 10 ^ k) (y * 10 ^ k)))
scaled_alike false true x y k = (λ h. absurd (never x y h), λ h. absurd (never (x * 10 ^ k) (y * 10 ^ k) h))

-- magnitudes at two powers, in whichever order
powers : (d : Number) (p q : ℕ) → magnitude d p * 10 ^ q ≡ magnitude d q * 10 ^ p
powers d p q = one (d.raised + p) q ∙ ap (λ k. d.digits * 10 ^ k) (omega arith) ∙ sym (one (d.raised + q) p)
  where
    one : (k q : ℕ) → d.digits * 10 ^ k * 10 ^ q ≡ d.digits * 10 ^ (k + q)
    one k q = rw (pow-add 10 k q) (omega arith)

pub goes_on : (a b c : Number) → LessValue a b → LessValue b c → LessValue a c
goes_on a b c f g =
    let first = (scaled_alike a.negative b.negative (magnitude a b.lowered) (magnitude b a.lowered) c.lowered).0 f in
    let second = (scaled_alike b.negative c.negative (magnitude b c.lowered) (magnitude c b.lowered) a.lowered).0 g in
    let middle : magnitude b a.lowered * 10 ^ c.lowered ≡ magnitude b c.lowered * 10 ^ a.lowered = powers b a.lowered c.lowered in
    let low : magnitude a b.lowered * 10 ^ c.lowered ≡ magnitude a c.lowered * 10 ^ b.lowered = powers a b.lowered c.lowered in
    let high : magnitude c b.lowered * 10 ^ a.lowered ≡ magnitude c a.lowered * 10 ^ b.lowered = powers c b.lowered a.lowered in
    (scaled_alike a.negative c.negative (magnitude a c.lowered) (magnitude c a.lowered) b.lowered).1
    (through _ _ _ (subst (λ n. signed a.negative n <ℤ signed b.negative (magnitude b a.lowered * 10 ^ c.lowered)) low first)
    (subst (λ n. signed b.negative n <ℤ signed c.negative (magnitude c a.lowered * 10 ^ b.lowered)) (sym middle) (subst (λ n. signed b.negative (magnitude b c.lowered * 10 ^ a.lowered) <ℤ signed c.negative n) high second)))
  where
    through : (x y z : ℤ) → x <ℤ y → y <ℤ z → x <ℤ z
    through x y z f g = omega (arith, ints, f, g)

pub one_of_three : (a b : Number) → LessValue a b ⊎ (SameValue a b ⊎ LessValue b a)
one_of_three a b = three (scaled a b.lowered) (scaled b a.lowered)
  where
    three : (x y : ℤ) → (x <ℤ y) ⊎ ((x ≡ y) ⊎ (y <ℤ x))
    three x y = by_lt_z x y (λ l. inl l) (λ l. by_lt_z y x (λ m. inr (inr m)) (λ m. inr (inl (omega (arith, ints, l, m)))))

pub never_two : (a b : Number) → LessValue a b → (SameValue a b ⊎ LessValue b a) → ⊥
never_two a b l = ⊎_elim (same (scaled a b.lowered) (scaled b a.lowered) l) (less (scaled a b.lowered) (scaled b a.lowered) l)
  where
    same : (x y : ℤ) → x <ℤ y → x ≡ y → ⊥
    same x y l e = omega (arith, ints, l, e)

    less : (x y : ℤ) → x <ℤ y → y <ℤ x → ⊥
    less x y l m = omega (arith, ints, l, m)
