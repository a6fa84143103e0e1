-- Texts of depths and positions.
use Rattle.std.specs.Prelude.{ℕ, ◌-◌, ◌/◌, ◌%◌, ◌^◌, ◌==◌, List, ◌∷◌, ◌++◌, length, replicate, ℤ, unsigned_abs, if◌then◌else◌}
use Rattle.std.specs.Int.{is_negative}
use Rattle.std.specs.Fmt.{decimal, sign_text}

-- tenths of a metre in metres: a point and a digit stand only where tenths remain
abbrev pub metres : ℕ → List ℕ
metres n = if n % 10 == 0 then decimal (n / 10) else (decimal (n / 10) ++ (46 ∷ decimal (n % 10)))

-- decimetres as metres: 10, 10.1, -0.4, 0
unfoldable pub decimetres : ℤ → List ℕ
decimetres z = sign_text (is_negative z) ++ metres (unsigned_abs z)

-- seven digits, with zeros first
abbrev pub seven_digits : ℕ → List ℕ
seven_digits n = replicate (7 - length (decimal n)) 48 ++ decimal n

-- ten-millionths of a degree as degrees: 0.0032000, -0.0000005
unfoldable pub degrees : ℤ → List ℕ
degrees z = sign_text (is_negative z) ++ (decimal (unsigned_abs z / 10 ^ 7) ++ (46 ∷ seven_digits (unsigned_abs z % 10 ^ 7)))
