-- What a decimal number is worth: its floor at a scale, the whole number that it is, and equality of values.
use Rattle.std.specs.Prelude.{ℕ, ◌*◌, ◌/◌, ◌%◌, ◌^◌, ◌≤◌, ◌≡◌, ◌==◌, Bool, int_lt, ℤ, pos, ◌+ℤ◌, ◌*ℤ◌, ◌≤ℤ◌, ◌<ℤ◌, Option, Some, None, if◌then◌else◌}
use Rattle.std.specs.Int.{int_div_euclid}
use Rattle.std.specs.Ordering.{int_eq}
use Rattle.exact_num.specs.Number.{Number, signed, magnitude, scaled}

-- the greatest whole number that isn't above the number times 10 to the power `places`
unfoldable pub floor_at : Number → ℕ → ℤ
floor_at d places = int_div_euclid (scaled d places) (pos (10 ^ d.lowered))

-- z isn't above the number at `places`, and z + 1 is
pub record IsFloor (d : Number) (places : ℕ) (z : ℤ) : Type 0 where
  pub reached : (z *ℤ pos (10 ^ d.lowered)) ≤ℤ scaled d places
  pub greatest : scaled d places <ℤ ((z +ℤ pos 1) *ℤ pos (10 ^ d.lowered))

-- its magnitude at `places` is 10 to the power 30 or more
abbrev pub IsHuge : Number → ℕ → Type 0
IsHuge d places = 10 ^ 30 * 10 ^ d.lowered ≤ magnitude d places

-- the number is the whole number z
abbrev pub IsWhole : Number → ℤ → Type 0
IsWhole d z = scaled d 0 ≡ (z *ℤ pos (10 ^ d.lowered))

-- the whole number that it is, if it is one
unfoldable pub whole_of : Number → Option ℤ
whole_of d = if magnitude d 0 % 10 ^ d.lowered == 0 then Some (signed d.negative (magnitude d 0 / 10 ^ d.lowered)) else None

-- both are the same after both are multiplied by 10 to the power `a.lowered + b.lowered`
abbrev pub SameValue : Number → Number → Type 0
SameValue a b = scaled a b.lowered ≡ scaled b a.lowered

-- the test of it
unfoldable pub same_value : Number → Number → Bool
same_value a b = int_eq (scaled a b.lowered) (scaled b a.lowered)

-- a is below b after both are multiplied by 10 to the power `a.lowered + b.lowered`
abbrev pub LessValue : Number → Number → Type 0
LessValue a b = scaled a b.lowered <ℤ scaled b a.lowered

-- the test of it
unfoldable pub less_value : Number → Number → Bool
less_value a b = int_lt (scaled a b.lowered) (scaled b a.lowered)
