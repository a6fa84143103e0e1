-- Laws over the definitions of numbers and their texts.
use Rattle.std.specs.Prelude.{ℕ, ◌≡◌, ◌↔◌, ◌⊎◌, List, ℤ, Some, FitsSigned}
use Rattle.std.specs.Int.{w32}
use Rattle.exact_num.specs.Number.{Number}
use Rattle.exact_num.specs.Text.{number_of}
use Rattle.exact_num.specs.NumberParts.{IsWritten}
use Rattle.exact_num.specs.Value.{floor_at, whole_of, IsFloor, IsWhole, LessValue, SameValue}
use Rattle.exact_num.specs.Printed.{decimetres}

-- a text is a number's exactly where it is made of a number's parts
abbrev pub ReadsParts : Type 0
ReadsParts = (text : List ℕ) (n : Number) → (number_of text ≡ Some n) ↔ IsWritten text n

-- a floor is the greatest whole number that isn't above the value
abbrev pub FloorIsGreatest : Type 0
FloorIsGreatest = (d : Number) (places : ℕ) → IsFloor d places (floor_at d places)

-- a number is whole exactly where it is worth a whole number
abbrev pub WholeIsWorth : Type 0
WholeIsWorth = (d : Number) (z : ℤ) → (whole_of d ≡ Some z) ↔ IsWhole d z

-- two values in decimetres with the same text are the same
abbrev pub DecimetresDiffer : Type 0
DecimetresDiffer = (y z : ℤ) → FitsSigned w32 y → FitsSigned w32 z → decimetres y ≡ decimetres z → y ≡ z

-- of two numbers one is below the other or both have the same value, and never two of these; and what is below goes on
pub record LessIsOrder : Type 0 where
  pub one : (a b : Number) → LessValue a b ⊎ (SameValue a b ⊎ LessValue b a)
  pub apart : (a b : Number) → LessValue a b → ¬ (SameValue a b ⊎ LessValue b a)
  pub goes_on : (a b c : Number) → LessValue a b → LessValue b c → LessValue a c
