-- Rounding towards shoal by steps, after IHO S-4.
use Rattle.std.specs.Prelude.{◌≡◌, ℕ, ◌+◌, ◌<◌, ◌≤◌, ℤ, pos, neg_ℤ, ◌*ℤ◌, ◌<ℤ◌, ◌≤ℤ◌, Bool, true, ◌||◌, int_le, int_rem, List, length, slice_index_or, count_by}
use Rattle.std.specs.Ordering.{int_eq}
use Rattle.std.specs.Int.{int_div_euclid}

-- a step in decimetres
abbrev pub is_step : ℤ → Bool
is_step z = ((int_eq z (pos 1) || int_eq z (pos 2)) || (int_eq z (pos 5) || int_eq z (pos 10))) || ((int_eq z (pos 20) || int_eq z (pos 50)) || int_eq z (pos 100))

abbrev pub from_at : List ℤ → ℕ → ℤ
from_at step_from k = slice_index_or step_from k (pos 0)

abbrev pub step_number : List ℤ → ℕ → ℤ
step_number steps k = slice_index_or steps k (pos 0)

-- where steps begin, in decimetres, and the steps: the first holds up to the first beginning, and each beginning is a multiple of the step that begins there
pub record AreSteps (step_from steps : List ℤ) : Type 0 where
  pub few : length step_from ≤ 8
  pub one_more : length steps ≡ length step_from + 1
  pub known : (k : ℕ) → k < length steps → is_step (step_number steps k) ≡ true
  pub above : (k : ℕ) → k < length step_from → neg_ℤ (pos 120000) ≤ℤ from_at step_from k
  pub below : (k : ℕ) → k < length step_from → from_at step_from k ≤ℤ pos 120000
  pub rising : (i k : ℕ) → i < k → k < length step_from → from_at step_from i <ℤ from_at step_from k
  pub whole : (k : ℕ) → k < length step_from → int_rem (from_at step_from k) (step_number steps (k + 1)) ≡ pos 0

-- the step of a depth in millimetres: of the beginnings at most as deep, the last one's
abbrev pub step_at : List ℤ → List ℤ → ℤ → ℤ
step_at step_from steps mm = step_number steps (count_by (λ from. int_le (pos 100 *ℤ from) mm) step_from)

-- a depth in millimetres, rounded towards shoal to decimetres
abbrev pub shoal_of : List ℤ → List ℤ → ℤ → ℤ
shoal_of step_from steps mm = step_at step_from steps mm *ℤ int_div_euclid mm (pos 100 *ℤ step_at step_from steps mm)

-- the greatest whole number of steps that is no deeper than so many millimetres
pub record IsShoalest (step mm c : ℤ) : Type 0 where
  pub whole : (k : ℤ) × (c ≡ step *ℤ k)
  pub no_deeper : (pos 100 *ℤ c) ≤ℤ mm
  pub greatest : (k : ℤ) → (pos 100 *ℤ (step *ℤ k)) ≤ℤ mm → (step *ℤ k) ≤ℤ c
