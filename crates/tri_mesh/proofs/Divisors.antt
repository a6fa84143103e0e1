-- Greatest common divisors.
use Rattle.std.proofs.Common.{◌≡◌, ℕ, zero, suc, ◌*◌, ◌%◌, ◌<◌, ◌≤◌, ◌⊎◌, ⊎_elim, Bool, true, false, true≢false, cond, ◌&&◌, ◌==◌, max, ℤ, pos, negsuc, ◌-ℤ◌, ◌*ℤ◌, ◌<ℤ◌, refl, sym, ap, subst, ◌∙◌, arith}
use Rattle.std.specs.Prelude.{int_rem, int_div, unsigned_abs}
use Rattle.std.specs.Int.{IsGcd, ◌∣◌}
use Rattle.std.proofs.lemmas.Bool.Decides.{nat_tests}
use Rattle.std.proofs.lemmas.Nat.Gcd.{dvd_of_mod-eq-zero, mod-eq-zero_of_dvd, le_of_dvd, dvd-zero}
use Rattle.std.proofs.lemmas.Int.{ints, quot-rem, unsigned_abs-mul}
use Rattle.std.proofs.Math.Nat.{eq-zero_of_zero-dvd, pos_of_dvd_of_pos, dvd-mul_left}
use Rattle.mesh_definitions.specs.Cuts.{greatest_below, common}

pub last_or : (k n : ℕ) → k ≤ suc n → (k ≤ n) ⊎ (k ≡ suc n)
last_or k n h = grind arith

module _ (test : ℕ → Bool) (g : ℕ) (passes : test g ≡ true) (most : (d : ℕ) → test d ≡ true → d ≤ g) (some : 0 < g) where
  -- one number more
  more : (n : ℕ) → g ≤ suc n → (g ≤ n → greatest_below test n ≡ g) → (b : Bool) → test (suc n) ≡ b → cond b (suc n) (greatest_below test n) ≡ g
  more n le rest true e = let h = most (suc n) e in omega (arith, h, le)
  more n le rest false e = ⊎_elim rest (λ h. absurd (true≢false (sym passes ∙ ap test h ∙ e))) (last_or g n le)

  greatest_is : (n : ℕ) → g ≤ n → greatest_below test n ≡ g
  greatest_is zero le = absurd (omega arith)
  greatest_is (suc n) le = more n le (greatest_is n) (test (suc n)) refl

pub left : (a b d : ℕ) → ((a % d == 0) && (b % d == 0)) ≡ true → a % d ≡ 0
left a b d h = grind (arith, nat_tests)

pub right : (a b d : ℕ) → ((a % d == 0) && (b % d == 0)) ≡ true → b % d ≡ 0
right a b d h = grind (arith, nat_tests)

pub divide_both : (a b d : ℕ) → a % d ≡ 0 → b % d ≡ 0 → ((a % d == 0) && (b % d == 0)) ≡ true
divide_both a b d h k = grind (arith, nat_tests)

pub common_is : (a b g : ℕ) → IsGcd a b g → g ≡ common a b
common_is a b zero h =
    let e : a ≡ 0 = eq-zero_of_zero-dvd h.0 in
    let k : b ≡ 0 = eq-zero_of_zero-dvd h.1 in
    rw (e, k) refl
common_is a b (suc g) h = sym (greatest_is (λ d. (a % d == 0) && (b % d == 0)) (suc g) (divide_both a b (suc g) (mod-eq-zero_of_dvd (suc g) h.0) (mod-eq-zero_of_dvd (suc g) h.1))
    (λ d t. le_of_dvd (omega arith) (h.2 d (dvd_of_mod-eq-zero d (left a b d t)) (dvd_of_mod-eq-zero d (right a b d t))))
    (omega arith) (max a b) (within a b h))
  where
    within : (x y : ℕ) → IsGcd x y (suc g) → suc g ≤ max x y
    within zero zero k = absurd (let z : suc (suc g) ≤ suc g = le_of_dvd (omega arith) (k.2 (suc (suc g)) (dvd-zero (suc (suc g))) (dvd-zero (suc (suc g)))) in omega (arith, z))
    within zero (suc y) k = let z : suc g ≤ suc y = le_of_dvd (omega arith) k.1 in omega (arith, z)
    within (suc x) y k = let z : suc g ≤ suc x = le_of_dvd (omega arith) k.0 in omega (arith, z)

-- what 32 divides, where something is left, has a greatest common divisor of 32 or more
pub wide : (a b g : ℕ) → IsGcd a b g → 32 ∣ a → 32 ∣ b → (0 < a) ⊎ (0 < b) → 32 ≤ g
wide a b g h p q some = le_of_dvd (⊎_elim (λ k. pos_of_dvd_of_pos h.0 k) (λ k. pos_of_dvd_of_pos h.1 k) some) (h.2 32 p q)

-- numbers that 32 divides are as far apart as 32 divides
pub apart_by : (x y : ℤ) → int_rem x (pos 32) ≡ pos 0 → int_rem y (pos 32) ≡ pos 0 → 32 ∣ unsigned_abs (y -ℤ x)
apart_by x y h k =
    let p = quot-rem x (pos 32) in
    let q = quot-rem y (pos 32) in
    let e : y -ℤ x ≡ (int_div y (pos 32) -ℤ int_div x (pos 32)) *ℤ pos 32 = omega (arith, ints, p, q, h, k) in
    let size : unsigned_abs (y -ℤ x) ≡ unsigned_abs (int_div y (pos 32) -ℤ int_div x (pos 32)) * 32 = ap unsigned_abs e ∙ unsigned_abs-mul (int_div y (pos 32) -ℤ int_div x (pos 32)) (pos 32) in
    subst (λ n. 32 ∣ n) (sym size) (dvd-mul_left 32 (unsigned_abs (int_div y (pos 32) -ℤ int_div x (pos 32))))

pub far : (x y : ℤ) → (x <ℤ y) ⊎ (y <ℤ x) → 0 < unsigned_abs (y -ℤ x)
far x y h = ⊎_elim (λ k. more x y (y -ℤ x) refl k) (λ k. less x y (y -ℤ x) refl k) h
  where
    more : (x y z : ℤ) → z ≡ y -ℤ x → x <ℤ y → 0 < unsigned_abs z
    more x y (pos n) e k = omega (arith, ints, e, k)
    more x y (negsuc n) e k = omega arith

    less : (x y z : ℤ) → z ≡ y -ℤ x → y <ℤ x → 0 < unsigned_abs z
    less x y (pos n) e k = absurd (omega (arith, ints, e, k))
    less x y (negsuc n) e k = omega arith

pub compared : (i k : ℕ) → (i ≡ k) ⊎ ((i < k) ⊎ (k < i))
compared i k = grind arith
