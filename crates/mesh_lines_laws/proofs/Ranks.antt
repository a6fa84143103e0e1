-- Where a number lies along places that rise: at one of them, or strictly between one and the next.
use Rattle.std.proofs.Common.{◌≡◌, ◌⊎◌, ⊎_elim, inl, inr, ℕ, ◌+◌, ◌<◌, ◌≤◌, ℤ, pos, ◌+ℤ◌, ◌-ℤ◌, ◌*ℤ◌, ◌≤ℤ◌, ◌<ℤ◌, Bool, true, false, refl, ap, ◌∙◌, arith}
use Rattle.std.proofs.Math.IntN.{*ℤ-zero}
use Rattle.std.proofs.lemmas.Bool.{cases_lt, cases_order}
use Rattle.std.proofs.lemmas.Int.{ints, by_lt_z}
use Rattle.plane_laws.proofs.Algebra.{ring, V, Sub, Mul, mul_pos, mul_neg}
use Rattle.tri_mesh.proofs.Between.{in_order}

abbrev pub Rises : (ℕ → ℤ) → ℕ → Type 0
Rises at n = (i k : ℕ) → i < k → k < n → at i <ℤ at k

-- z lies at place j, or within the step from it to the next
abbrev pub Lies : (ℕ → ℤ) → ℕ → ℕ → Bool → ℤ → Type 0
Lies at n j false z = (j < n) × (z ≡ at j)
Lies at n j true z = (j + 1 < n) × (at j <ℤ z) × (z <ℤ at (j + 1))

module _ (at : ℕ → ℤ) (n : ℕ) (rises : Rises at n) where
  -- a place isn't within a step
  not_within : (j k : ℕ) (z : ℤ) → Lies at n j false z → Lies at n k true z → ⊥
  not_within j k z a b = ⊎_elim
      (λ l. let r = in_order at n rises j k (omega (arith, l)) (omega (arith, b.0)) in omega (arith, ints, r, a.1, b.1))
      (λ l. let r = in_order at n rises (k + 1) j l a.0 in omega (arith, ints, r, a.1, b.2))
      (cases_lt j (k + 1))

  earlier_step : (j k : ℕ) (z : ℤ) → Lies at n j true z → Lies at n k true z → j < k → ⊥
  earlier_step j k z a b l = let r = in_order at n rises (j + 1) k (omega (arith, l)) (omega (arith, b.0)) in omega (arith, ints, r, a.2, b.1)

  -- a number lies in one way
  pub lies_once : (j k : ℕ) (s t : Bool) (z : ℤ) → Lies at n j s z → Lies at n k t z → (j ≡ k) × (s ≡ t)
  lies_once j k false true z a b = absurd (not_within j k z a b)
  lies_once j k true false z a b = absurd (not_within k j z b a)
  lies_once j k false false z a b = ⊎_elim
      (λ e. (e, refl))
      (λ far. absurd (⊎_elim (λ l. let r = rises j k l b.0 in omega (arith, ints, r, a.1, b.1)) (λ l. let r = rises k j l a.0 in omega (arith, ints, r, a.1, b.1)) far))
      (cases_order j k)
  lies_once j k true true z a b = ⊎_elim
      (λ e. (e, refl))
      (λ far. absurd (⊎_elim (λ l. earlier_step j k z a b l) (λ l. earlier_step k j z b a l) far))
      (cases_order j k)

  -- what lies from place j to the next lies between them
  pub at_place : (j k : ℕ) → j ≤ k → k ≤ j + 1 → j + 1 < n → (at j ≤ℤ at k) × (at k ≤ℤ at (j + 1))
  at_place j k low high l = (in_order at n rises j k low (omega (arith, high, l)), in_order at n rises k (j + 1) high l)

  -- a place isn't strictly between two that follow each other
  pub beside_step : (i j : ℕ) → i < n → j + 1 < n → (at i ≤ℤ at j) ⊎ (at (j + 1) ≤ℤ at i)
  beside_step i j l m = ⊎_elim (λ a. inl (in_order at n rises i j (omega (arith, a)) (omega (arith, m)))) (λ a. inr (in_order at n rises (j + 1) i a l)) (cases_lt i (j + 1))

-- how a cut lies along one axis: between the ends, or at both
pub record Along (w o c : ℤ) : Type 0 where
  pub level : w ≡ o → c ≡ w
  pub up : w <ℤ o → (w <ℤ c) × (c <ℤ o)
  pub down : o <ℤ w → (o <ℤ c) × (c <ℤ w)

pub less_is : (n s e : ℤ) → (n -ℤ s) *ℤ e ≡ n *ℤ e -ℤ s *ℤ e
less_is n s e = ring (Mul (Sub (V n) (V s)) (V e)) (Sub (Mul (V n) (V e)) (Mul (V s) (V e))) (omega arith)

pub along : (w o c e n s : ℤ) → pos 0 <ℤ s → s <ℤ n → w +ℤ n *ℤ e ≡ o → c ≡ w +ℤ s *ℤ e → Along w o c
along w o c e n s some less end is = by_lt_z (pos 0) e
    (λ up.
    let a = mul_pos s e some up in
    let b = mul_pos (n -ℤ s) e (omega (arith, ints, less)) up in
    let d = less_is n s e in
    record { level = λ h. absurd (omega (arith, ints, a, b, d, end, h)); up = λ h. (omega (arith, ints, a, is), omega (arith, ints, b, d, end, is)); down = λ h. absurd (omega (arith, ints, a, b, d, end, h)) })
    (λ not_up. by_lt_z e (pos 0)
    (λ down.
    let a = mul_neg s e some down in
    let b = mul_neg (n -ℤ s) e (omega (arith, ints, less)) down in
    let d = less_is n s e in
    record { level = λ h. absurd (omega (arith, ints, a, b, d, end, h)); up = λ h. absurd (omega (arith, ints, a, b, d, end, h)); down = λ h. (omega (arith, ints, b, d, end, is), omega (arith, ints, a, is)) })
    (λ not_down.
    let z : e ≡ pos 0 = omega (arith, ints, not_up, not_down) in
    let a : s *ℤ e ≡ pos 0 = ap (λ x. s *ℤ x) z ∙ *ℤ-zero s in
    let b : n *ℤ e ≡ pos 0 = ap (λ x. n *ℤ x) z ∙ *ℤ-zero n in
    record { level = λ h. omega (arith, ints, a, is); up = λ h. absurd (omega (arith, ints, b, end, h)); down = λ h. absurd (omega (arith, ints, b, end, h)) }))

-- so it lies in every range that has both ends
pub cut_within : (lo hi w o c : ℤ) → Along w o c → lo ≤ℤ w → w ≤ℤ hi → lo ≤ℤ o → o ≤ℤ hi → (lo ≤ℤ c) × (c ≤ℤ hi)
cut_within lo hi w o c h a b p q = by_lt_z w o
    (λ l. let k = h.up l in (omega (arith, ints, k.0, a), omega (arith, ints, k.1, q)))
    (λ m. by_lt_z o w
    (λ l. let k = h.down l in (omega (arith, ints, k.0, p), omega (arith, ints, k.1, b)))
    (λ l. let e = h.level (omega (arith, ints, l, m)) in (omega (arith, ints, e, a), omega (arith, ints, e, b))))
