-- Lemmas on the window of rows.
use Rattle.std.proofs.Common.{◌≡◌, ℕ, zero, suc, ◌+◌, ◌-◌, ◌<◌, ◌≤◌, ◌⊎◌, inl, inr, ⊎_elim, List, [], ◌∷◌, ◌++◌, length, drop, Some, sym, ap, subst, refl, arith}
use Rattle.std.specs.Prelude.{IfSome, slice_get}
use Rattle.std.proofs.lemmas.Grind.{common_steps}
use Rattle.std.proofs.lemmas.Option.{slice_get_past}
use Rattle.circular_buffer.specs.Buffer.{keep_last}

less_same_more : (a b : ℕ) → (a < b) ⊎ ((a ≡ b) ⊎ (b < a))
less_same_more a b = grind arith

le_or : (a b : ℕ) → (a ≤ b) ⊎ (b + 1 ≤ a)
le_or a b = grind arith

-- a ring is full, or it holds all that came
pub kept_whole : (capacity next m n : ℕ) → n ≡ m + 1 - (m + 1 - capacity) → (capacity ≤ m) ⊎ (m ≡ next) → (capacity ≤ n) ⊎ (n ≡ next + 1)
kept_whole capacity next m n e w = ⊎_elim
    (λ h. inl (omega (arith, e, h)))
    (λ s. ⊎_elim (λ h. inl (omega (arith, e, h))) (λ h. inr (omega (arith, e, s, h))) (le_or capacity (m + 1)))
    w

module _ {X : Type 0} where
  -- an item after so many were dropped
  get_dropped : (n : ℕ) (xs : List X) (k j : ℕ) → j ≡ n + k → slice_get (drop n xs) k ≡ slice_get xs j
  get_dropped zero xs k j e = let same : k ≡ j = omega arith in ap (slice_get xs) same
  get_dropped (suc n) [] k j e = refl
  get_dropped (suc n) (x ∷ xs) k zero e = absurd (omega arith)
  get_dropped (suc n) (x ∷ xs) k (suc j) e = get_dropped n xs k j (omega arith)

  -- an item before those that were put behind it
  get_before : (xs ys : List X) (k : ℕ) → k < length xs → slice_get (xs ++ ys) k ≡ slice_get xs k
  get_before [] ys k h = absurd (omega arith)
  get_before (x ∷ xs) ys zero h = refl
  get_before (x ∷ xs) ys (suc k) h = get_before xs ys k (omega arith)

  -- the item that was put behind all others
  get_last : (xs : List X) (x : X) (k : ℕ) → k ≡ length xs → slice_get (xs ++ x ∷ []) k ≡ Some x
  get_last [] x zero e = refl
  get_last [] x (suc k) e = absurd (omega arith)
  get_last (y ∷ xs) x zero e = absurd (omega arith)
  get_last (y ∷ xs) x (suc k) e = get_last xs x k (omega arith)

  pub kept_length : (capacity : ℕ) (xs : List X) (x : X) → length (keep_last capacity (xs ++ x ∷ [])) ≡ length xs + 1 - (length xs + 1 - capacity)
  kept_length capacity xs x = grind (arith, common_steps)

  one_more : (xs : List X) (x : X) → length (xs ++ x ∷ []) ≡ length xs + 1
  one_more xs x = grind (arith, common_steps)

  -- what holds of a ring's items by their places holds after one more, of those that it keeps
  pub kept_each : (R : ℕ → X → Type 0) (capacity next : ℕ) (xs : List X) (x : X) → length xs ≤ next →
      ((k : ℕ) → IfSome (slice_get xs k) (R (next - length xs + k))) → R next x →
      (k : ℕ) → IfSome (slice_get (keep_last capacity (xs ++ x ∷ [])) k) (R (next + 1 - length (keep_last capacity (xs ++ x ∷ [])) + k))
  kept_each R capacity next xs x held each here k =
      let t = length (xs ++ x ∷ []) - capacity in
      let n : t ≡ length xs + 1 - capacity = ap (λ m. m - capacity) (one_more xs x) in
      let from : next + 1 - length (keep_last capacity (xs ++ x ∷ [])) + k ≡ next - length xs + (t + k) = omega (arith, kept_length capacity xs x, n, held) in
      let get : slice_get (keep_last capacity (xs ++ x ∷ [])) k ≡ slice_get (xs ++ x ∷ []) (t + k) = get_dropped t (xs ++ x ∷ []) k (t + k) refl in
      subst (λ i. IfSome (slice_get (keep_last capacity (xs ++ x ∷ [])) k) (R i)) (sym from)
      (subst (λ o. IfSome o (R (next - length xs + (t + k)))) (sym get) (whole (t + k)))
    where
      whole : (j : ℕ) → IfSome (slice_get (xs ++ x ∷ []) j) (R (next - length xs + j))
      whole j = ⊎_elim
          (λ lt. subst (λ o. IfSome o (R (next - length xs + j))) (sym (get_before xs (x ∷ []) j lt)) (each j))
          (λ other. ⊎_elim
          (λ e. let place : next - length xs + j ≡ next = omega (arith, e, held) in subst (λ o. IfSome o (R (next - length xs + j))) (sym (get_last xs x j e)) (subst (λ i. R i x) (sym place) here))
          (λ gt. subst (λ o. IfSome o (R (next - length xs + j))) (sym (slice_get_past (xs ++ x ∷ []) j (omega (arith, gt, one_more xs x)))) tt)
          other)
          (less_same_more j (length xs))
