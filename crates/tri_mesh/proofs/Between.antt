-- Numbers between others, and the cell that a number lies in.
use Rattle.std.proofs.Common.{◌≡◌, ◌⊎◌, ⊎_elim, inl, inr, ℕ, ◌+◌, ◌<◌, ◌≤◌, ℤ, ◌≤ℤ◌, ◌<ℤ◌, neg_ℤ, Bool, true, false, cond, ◌&&◌, true≢false, refl, sym, subst, arith}
use Rattle.std.specs.Prelude.{int_le}
use Rattle.std.proofs.lemmas.Bool.{cases_lt}
use Rattle.std.proofs.lemmas.Int.{ints}
use Rattle.plane_geom.specs.Geom.{is_between}
use Rattle.tri_mesh.specs.Lines.{IsBeside}

both_true : (x y : Bool) → (x && y) ≡ true → (x ≡ true) × (y ≡ true)
both_true true true e = (refl, refl)
both_true true false e = absurd (true≢false (sym e))
both_true false y e = absurd (true≢false (sym e))

at_most : (a b : ℤ) → int_le a b ≡ true → a ≤ℤ b
at_most a b e = grind (arith, ints, e)

spread : (a b c : ℤ) → is_between a b c ≡ true → ((a ≤ℤ c) × (c ≤ℤ b)) ⊎ ((b ≤ℤ c) × (c ≤ℤ a))
spread a b c e = by (int_le a b) e
  where
    by : (x : Bool) → cond x (int_le a c && int_le c b) (int_le b c && int_le c a) ≡ true → ((a ≤ℤ c) × (c ≤ℤ b)) ⊎ ((b ≤ℤ c) × (c ≤ℤ a))
    by true h = let t = both_true (int_le a c) (int_le c b) h in inl (at_most a c t.0, at_most c b t.1)
    by false h = let t = both_true (int_le b c) (int_le c a) h in inr (at_most b c t.0, at_most c a t.1)

-- what lies between two numbers of a range lies in the range
pub inside : (lo hi a b c : ℤ) → is_between a b c ≡ true → lo ≤ℤ a → a ≤ℤ hi → lo ≤ℤ b → b ≤ℤ hi → (lo ≤ℤ c) × (c ≤ℤ hi)
inside lo hi a b c e p q r s = ⊎_elim (λ h. (omega (arith, ints, p, h.0), omega (arith, ints, s, h.1))) (λ h. (omega (arith, ints, r, h.0), omega (arith, ints, q, h.1))) (spread a b c e)

less_or : (i k : ℕ) → i ≤ k → (i < k) ⊎ (i ≡ k)
less_or i k h = grind arith

-- places that rise are in order
pub in_order : (at : ℕ → ℤ) (n : ℕ) → ((i k : ℕ) → i < k → k < n → at i <ℤ at k) → (i k : ℕ) → i ≤ k → k < n → at i ≤ℤ at k
in_order at n rises i k h l = ⊎_elim (λ less. omega (arith, ints, rises i k less l)) (λ e. subst (λ m. at i ≤ℤ at m) e (omega (arith, ints))) (less_or i k h)

module _ (at : ℕ → ℤ) (n found : ℕ) (z : ℤ) (rises : (i k : ℕ) → i < k → k < n → at i <ℤ at k) (known : found + 1 < n) (low : at found ≤ℤ z) (high : z ≤ℤ at (found + 1)) (last : (found + 2 ≡ n) ⊎ (z <ℤ at (found + 1))) where
  earlier : (j : ℕ) → j < found → z ≤ℤ at (j + 1) → IsBeside at z found j
  earlier j h b = ⊎_elim
      (λ less. absurd (omega (arith, ints, rises (j + 1) found less (omega (arith, known)), b, low)))
      (λ e. let up : z ≤ℤ at found = subst (λ m. z ≤ℤ at m) e b in inr (e, omega (arith, ints, up, low)))
      (less_or (j + 1) found (omega (arith, h)))

  later : (j : ℕ) → found < j → j + 1 < n → at j ≤ℤ z → ⊥
  later j h lt a = ⊎_elim (λ e. omega (arith, e, h, lt)) (λ less. omega (arith, ints, less, a, in_order at n rises (found + 1) j (omega (arith, h)) (omega (arith, lt)))) last

  -- a step that has z is the one that was found, or the one before it
  pub beside : (j : ℕ) → j + 1 < n → at j ≤ℤ z → z ≤ℤ at (j + 1) → IsBeside at z found j
  beside j lt a b = ⊎_elim
      (λ h. earlier j h b)
      (λ h. ⊎_elim (λ less. absurd (later j less lt a)) (λ e. inl (sym e)) (less_or found j h))
      (cases_lt j found)

  -- a place at z is one of the two ends of the step that was found
  pub node : (j : ℕ) → j < n → at j ≡ z → (j ≡ found) ⊎ (j ≡ found + 1)
  node j lt e = ⊎_elim
      (λ h. absurd (omega (arith, ints, rises j found h (omega (arith, known)), e, low)))
      (λ h. ⊎_elim
      (λ less. ⊎_elim
      (λ beyond. absurd (omega (arith, ints, rises (found + 1) j beyond lt, e, high)))
      (λ same. inr (sym same))
      (less_or (found + 1) j (omega (arith, less))))
      (λ same. inl (sym same))
      (less_or found j h))
      (cases_lt j found)

-- the same where places fall
pub beside_down : (at : ℕ → ℤ) (z : ℤ) (found j : ℕ) → IsBeside (λ i. neg_ℤ (at i)) (neg_ℤ z) found j → IsBeside at z found j
beside_down at z found j h = ⊎_elim inl (λ b. inr (b.0, omega (arith, ints, b.1))) h
