-- A decimal number: a sign, its digits read as one whole number, and the power of ten that they are times.
-- The power has two naturals in place of a signed one, since texts give one for the exponent and one for the digits after the point.
use Rattle.std.specs.Prelude.{ℕ, ◌+◌, ◌*◌, ◌^◌, Bool, true, false, not, ℤ, pos}
use Rattle.std.proofs.Common.{neg_ℤ}

-- the digits times 10 to the power `raised`, divided by 10 to the power `lowered`
pub record Number : Type 0 where
  pub negative : Bool
  pub digits : ℕ
  pub raised : ℕ
  pub lowered : ℕ

-- a magnitude under a sign
abbrev pub signed : Bool → ℕ → ℤ
signed false n = pos n
signed true n = neg_ℤ (pos n)

-- the number times 10 to the power `places`, and to the power `lowered` too, which makes it whole
abbrev pub magnitude : Number → ℕ → ℕ
magnitude d places = d.digits * 10 ^ (d.raised + places)

abbrev pub scaled : Number → ℕ → ℤ
scaled d places = signed d.negative (magnitude d places)

abbrev pub opposite : Number → Number
opposite d = record d { negative = not d.negative }
