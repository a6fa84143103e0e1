-- The text of a number by its parts: a sign, digits, a point with digits, and a power of ten.
use Rattle.std.specs.Prelude.{ℕ, ◌+◌, ◌<◌, ◌≤◌, ◌≡◌, Bool, true, false, IsTrue, List, [], ◌∷◌, ◌++◌, length, Option, Some, None, if◌then◌else◌}
use Rattle.std.specs.Str.{all_ascii_digits}
use Rattle.std.specs.Int.Digits.{number_from_digits}
use Rattle.exact_num.specs.Number.{Number}
use Rattle.exact_num.specs.Text.{values}

pub data Sign : Type 0 where
  none : Sign
  plus : Sign
  minus : Sign

-- `e` or `E`, a sign and digits
pub record Power : Type 0 where
  pub capital : Bool
  pub sign : Sign
  pub digits : List ℕ

pub record NumberParts : Type 0 where
  pub sign : Sign
  pub whole : List ℕ
  -- the digits after a point, where there is one
  pub fraction : Option (List ℕ)
  pub power : Option Power

abbrev pub is_minus : Sign → Bool
is_minus none = false
is_minus plus = false
is_minus minus = true

abbrev pub sign_text : Sign → List ℕ
sign_text none = []
sign_text plus = 43 ∷ []
sign_text minus = 45 ∷ []

abbrev pub fraction_text : Option (List ℕ) → List ℕ
fraction_text None = []
fraction_text (Some digits) = 46 ∷ digits

abbrev pub power_text : Option Power → List ℕ
power_text None = []
power_text (Some p) = (if p.capital then 69 else 101) ∷ (sign_text p.sign ++ p.digits)

abbrev pub parts_text : NumberParts → List ℕ
parts_text p = sign_text p.sign ++ (p.whole ++ (fraction_text p.fraction ++ power_text p.power))

-- the digits behind the point
abbrev pub fraction_digits : Option (List ℕ) → List ℕ
fraction_digits None = []
fraction_digits (Some digits) = digits

-- one to six digits
abbrev pub IsPower : Option Power → Type 0
IsPower None = Unit {0}
IsPower (Some p) = IsTrue (all_ascii_digits p.digits) × (0 < length p.digits) × (length p.digits ≤ 6)

-- digits, at least one, in at most 64 bytes
pub record IsNumberText (p : NumberParts) : Type 0 where
  pub whole : IsTrue (all_ascii_digits p.whole)
  pub fraction : IsTrue (all_ascii_digits (fraction_digits p.fraction))
  pub some : 0 < length p.whole + length (fraction_digits p.fraction)
  pub power : IsPower p.power
  pub short : length (parts_text p) ≤ 64

-- how far the power of ten goes up, and how far down
abbrev pub raised_by : Option Power → ℕ
raised_by None = 0
raised_by (Some p) = if is_minus p.sign then 0 else number_from_digits 10 (values p.digits)

abbrev pub lowered_by : Option Power → ℕ
lowered_by None = 0
lowered_by (Some p) = if is_minus p.sign then number_from_digits 10 (values p.digits) else 0

-- the sign times all digits as one whole number, times a power of ten
abbrev pub parts_number : NumberParts → Number
parts_number p = record {
  negative = is_minus p.sign;
  digits = number_from_digits 10 (values (p.whole ++ fraction_digits p.fraction));
  raised = raised_by p.power;
  lowered = length (fraction_digits p.fraction) + lowered_by p.power;
}

-- the text has these parts, and the number is theirs
abbrev pub IsWritten : List ℕ → Number → Type 0
IsWritten text n = (p : NumberParts) × IsNumberText p × (text ≡ parts_text p) × (n ≡ parts_number p)
