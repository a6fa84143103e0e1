-- The number that a text is.
use Rattle.std.specs.Prelude.{ℕ, ◌+◌, ◌-◌, Bool, false, ◌&&◌, ◌||◌, ◌==◌, nat_lt, nat_le, List, [], ◌∷◌, ◌++◌, length, map, Option, Some, None, option_map, if◌then◌else◌}
use Rattle.std.specs.Char.{is_ascii_digit}
use Rattle.std.specs.Str.{all_ascii_digits}
use Rattle.std.specs.Int.Digits.{number_from_digits}
use Rattle.exact_num.specs.Number.{Number}

-- a `-` stands first
abbrev pub has_minus : List ℕ → Bool
has_minus [] = false
has_minus (c ∷ cs) = c == 45

-- what follows a sign, where one stands first
abbrev pub unsigned : List ℕ → List ℕ
unsigned [] = []
unsigned (c ∷ cs) = if c == 43 || c == 45 then cs else c ∷ cs

-- the digits that stand first, and what follows them
abbrev pub leading : List ℕ → List ℕ
leading [] = []
leading (c ∷ cs) = if is_ascii_digit c then c ∷ leading cs else []

abbrev pub following : List ℕ → List ℕ
following [] = []
following (c ∷ cs) = if is_ascii_digit c then following cs else c ∷ cs

-- the digits after a point that stands first, and what follows them
abbrev pub fraction : List ℕ → List ℕ
fraction [] = []
fraction (c ∷ cs) = if c == 46 then leading cs else []

abbrev pub after_fraction : List ℕ → List ℕ
after_fraction [] = []
after_fraction (c ∷ cs) = if c == 46 then following cs else c ∷ cs

-- the numbers that digits stand for
abbrev pub values : List ℕ → List ℕ
values text = map (λ c. c - 48) text

-- one to six digits
abbrev pub is_exponent : List ℕ → Bool
is_exponent text = all_ascii_digits text && (nat_lt 0 (length text) && nat_le (length text) 6)

-- the powers of ten to multiply and to divide by, of the text behind the letter
abbrev pub exponent_of : List ℕ → Option (ℕ × ℕ)
exponent_of text =
    let size = number_from_digits 10 (values (unsigned text)) in
    if is_exponent (unsigned text) then Some (if has_minus text then (0, size) else (size, 0)) else None

-- the same of what follows the digits: nothing, or an exponent
abbrev pub power_of : List ℕ → Option (ℕ × ℕ)
power_of [] = Some (0, 0)
power_of (c ∷ cs) = if c == 101 || c == 69 then exponent_of cs else None

-- a sign, the digits before and behind a point, and a power of ten
abbrev pub number_with : Bool → List ℕ → List ℕ → ℕ × ℕ → Number
number_with negative whole part power = record {
  negative = negative;
  digits = number_from_digits 10 (values (whole ++ part));
  raised = power.0;
  lowered = length part + power.1;
}

-- the number that a text is, from its parts from the beginning on
unfoldable pub number_of : List ℕ → Option Number
number_of text =
    let whole = leading (unsigned text) in
    let part = fraction (following (unsigned text)) in
    let end = after_fraction (following (unsigned text)) in
    if nat_le (length text) 64 && nat_lt 0 (length whole + length part) then option_map (number_with (has_minus text) whole part) (power_of end) else None
