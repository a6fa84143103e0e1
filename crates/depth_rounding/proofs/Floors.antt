-- Floors by the seven steps.
use Rattle.std.proofs.Common.{◌≡◌, ℕ, ◌<◌, ℤ, pos, negsuc, neg_ℤ, ◌+ℤ◌, ◌*ℤ◌, ◌≤ℤ◌, ◌<ℤ◌, Bool, true, false, ◌||◌, ◌⊎◌, inl, inr, ⊎_elim, subst, arith, refl}
use Rattle.std.proofs.lemmas.Int.{ints}
use Rattle.std.specs.Ordering.{int_eq}
use Rattle.std.specs.Int.{int_div_euclid}
use Rattle.depth_rounding.specs.Steps.{is_step}

or_parts : (a b : Bool) → (a || b) ≡ true → (a ≡ true) ⊎ (b ≡ true)
or_parts true b h = inl refl
or_parts false b h = inr h

same : (z y : ℤ) → int_eq z y ≡ true → y ≡ z
same z y h = grind (arith, ints)

-- what holds of each of the seven steps holds of every step
module _ (P : ℤ → Type 0) (one : P (pos 1)) (two : P (pos 2)) (five : P (pos 5)) (ten : P (pos 10)) (twenty : P (pos 20)) (fifty : P (pos 50)) (hundred : P (pos 100)) where
  pub each_step : (z : ℤ) → is_step z ≡ true → P z
  each_step z h =
      let at : (y : ℤ) → P y → int_eq z y ≡ true → P z = λ y p e. subst P (same z y e) p in
      ⊎_elim
      (λ k. ⊎_elim (λ l. ⊎_elim (at (pos 1) one) (at (pos 2) two) (or_parts _ _ l)) (λ l. ⊎_elim (at (pos 5) five) (at (pos 10) ten) (or_parts _ _ l)) (or_parts _ _ k))
      (λ k. ⊎_elim (λ l. ⊎_elim (at (pos 20) twenty) (at (pos 50) fifty) (or_parts _ _ l)) (at (pos 100) hundred) (or_parts _ _ k))
      (or_parts _ _ h)

-- a quotient times the divisor
floor_low : (z : ℤ) (n : ℕ) → 0 < n → (pos n *ℤ int_div_euclid z (pos n)) ≤ℤ z
floor_low (pos a) n h = omega (arith, ints)
floor_low (negsuc a) n h = omega (arith, ints)

floor_high : (z : ℤ) (n : ℕ) → 0 < n → z <ℤ (pos n *ℤ int_div_euclid z (pos n) +ℤ pos n)
floor_high (pos a) n h = omega (arith, ints)
floor_high (negsuc a) n h = omega (arith, ints)

-- what a floor by a step gives
pub record IsFloor (step mm q : ℤ) : Type 0 where
  pub positive : pos 1 ≤ℤ step
  pub small : step ≤ℤ pos 100
  pub low : (pos 100 *ℤ (step *ℤ q)) ≤ℤ mm
  pub high : mm <ℤ (pos 100 *ℤ (step *ℤ q) +ℤ pos 100 *ℤ step)
  pub greatest : (k : ℤ) → (pos 100 *ℤ (step *ℤ k)) ≤ℤ mm → (step *ℤ k) ≤ℤ (step *ℤ q)
  pub above : neg_ℤ (pos 12000000) ≤ℤ mm → neg_ℤ (pos 120000) ≤ℤ (step *ℤ q)

abbrev Floors : ℤ → Type 0
Floors step = (mm : ℤ) → IsFloor step mm (int_div_euclid mm (pos 100 *ℤ step))

pub floors : (step : ℤ) → is_step step ≡ true → Floors step
floors = each_step Floors
    (λ mm. let l = floor_low mm 100 (omega arith) in let h = floor_high mm 100 (omega arith) in record { positive = omega (arith, ints); small = omega (arith, ints); low = omega (arith, ints); high = omega (arith, ints); greatest = λ k e. omega (arith, ints); above = λ e. omega (arith, ints) })
    (λ mm. let l = floor_low mm 200 (omega arith) in let h = floor_high mm 200 (omega arith) in record { positive = omega (arith, ints); small = omega (arith, ints); low = omega (arith, ints); high = omega (arith, ints); greatest = λ k e. omega (arith, ints); above = λ e. omega (arith, ints) })
    (λ mm. let l = floor_low mm 500 (omega arith) in let h = floor_high mm 500 (omega arith) in record { positive = omega (arith, ints); small = omega (arith, ints); low = omega (arith, ints); high = omega (arith, ints); greatest = λ k e. omega (arith, ints); above = λ e. omega (arith, ints) })
    (λ mm. let l = floor_low mm 1000 (omega arith) in let h = floor_high mm 1000 (omega arith) in record { positive = omega (arith, ints); small = omega (arith, ints); low = omega (arith, ints); high = omega (arith, ints); greatest = λ k e. omega (arith, ints); above = λ e. omega (arith, ints) })
    (λ mm. let l = floor_low mm 2000 (omega arith) in let h = floor_high mm 2000 (omega arith) in record { positive = omega (arith, ints); small = omega (arith, ints); low = omega (arith, ints); high = omega (arith, ints); greatest = λ k e. omega (arith, ints); above = λ e. omega (arith, ints) })
    (λ mm. let l = floor_low mm 5000 (omega arith) in let h = floor_high mm 5000 (omega arith) in record { positive = omega (arith, ints); small = omega (arith, ints); low = omega (arith, ints); high = omega (arith, ints); greatest = λ k e. omega (arith, ints); above = λ e. omega (arith, ints) })
    (λ mm. let l = floor_low mm 10000 (omega arith) in let h = floor_high mm 10000 (omega arith) in record { positive = omega (arith, ints); small = omega (arith, ints); low = omega (arith, ints); high = omega (arith, ints); greatest = λ k e. omega (arith, ints); above = λ e. omega (arith, ints) })
