-- Formats of fields: what subfields a field has, their bytes, and how they are read back (S-57 Edition 3.1, Part 3, clause 7).
-- One rule for each kind of subfield serves every field, and reading and writing are two functions over the same list.
use Rattle.std.specs.Prelude.{◌≡◌, ℕ, ℤ, ◌+◌, ◌-◌, ◌*◌, ◌/◌, ◌<◌, ◌^◌, Bool, true, false, not, Result, is_ok, nat_lt, ◌==◌, List, [], ◌∷◌, ◌++◌, length, take, drop, Option, Some, None, option_map, if◌then◌else◌, FitsSigned}
use Rattle.std.specs.List.{list_all}
use Rattle.std.specs.declared.alloc.AllocError.{AllocError}
use Rattle.std.specs.Int.{Width, w16, w32, byte_len, to_le_bytes, from_le_bytes, cast_signed, cast_unsigned}
use Rattle.readings.specs.Finds.{◌>>=◌}

-- The format of a subfield: an unsigned number of 1, 2 or 4 bytes with its lowest byte first (b11, b12, b14), a signed
-- number of 4 bytes in two's complement (b24), a text that 0x1F ends (A), or so many bytes as they stand (A(8), R(4)).
pub data Format : Type 0 where
  b11 : Format
  b12 : Format
  b14 : Format
  b24 : Format
  A : Format
  As : ℕ → Format

-- The value of a subfield: a number, a signed number, or bytes.
pub data Value : Type 0 where
  N : ℕ → Value
  Z : ℤ → Value
  T : List ℕ → Value

-- ---- reading, as a value and the bytes after it

abbrev pub byte_at : List ℕ → Option (ℕ × List ℕ)
byte_at [] = None
byte_at (byte ∷ bytes) = Some (byte, bytes)

abbrev pub number_at : Width → List ℕ → Option (ℕ × List ℕ)
number_at w bytes = if nat_lt (length bytes) (byte_len w) then None else Some (from_le_bytes w (take (byte_len w) bytes), drop (byte_len w) bytes)

-- the signed number whose two's complement of 32 bits is this unsigned number
unfoldable pub signed : ℕ → ℤ
signed n = cast_signed w32 n

abbrev pub longer : ℕ → Option (List ℕ × List ℕ) → Option (List ℕ × List ℕ)
longer byte None = None
longer byte (Some x) = Some (byte ∷ x.0, x.1)

abbrev pub text_at : List ℕ → Option (List ℕ × List ℕ)
text_at [] = None
text_at (byte ∷ bytes) = if byte == 31 then Some ([], bytes) else longer byte (text_at bytes)

abbrev pub bytes_at : ℕ → List ℕ → Option (List ℕ × List ℕ)
bytes_at n bytes = if nat_lt (length bytes) n then None else Some (take n bytes, drop n bytes)

abbrev pub value_at : Format → List ℕ → Option (Value × List ℕ)
value_at b11 bytes = option_map (λ x. (N x.0, x.1)) (byte_at bytes)
value_at b12 bytes = option_map (λ x. (N x.0, x.1)) (number_at w16 bytes)
value_at b14 bytes = option_map (λ x. (N x.0, x.1)) (number_at w32 bytes)
value_at b24 bytes = option_map (λ x. (Z (signed x.0), x.1)) (number_at w32 bytes)
value_at A bytes = option_map (λ x. (T x.0, x.1)) (text_at bytes)
value_at (As n) bytes = option_map (λ x. (T x.0, x.1)) (bytes_at n bytes)

-- the values of these subfields, up to the end of the bytes
abbrev pub values_in : List Format → List ℕ → Option (List Value)
values_in [] bytes = if length bytes == 0 then Some [] else None
values_in (f ∷ fs) bytes = do
  first ← value_at f bytes
  others ← values_in fs first.1
  Some (first.0 ∷ others)

-- ---- the bytes of a value

abbrev pub bytes_of : Format → Value → List ℕ
bytes_of b11 (N n) = n ∷ []
bytes_of b12 (N n) = to_le_bytes w16 n
bytes_of b14 (N n) = to_le_bytes w32 n
bytes_of b24 (Z z) = to_le_bytes w32 (cast_unsigned w32 z)
bytes_of A (T text) = text ++ 31 ∷ []
bytes_of (As n) (T text) = text
bytes_of _ _ = []

abbrev pub field_of : List Format → List Value → List ℕ
field_of (f ∷ fs) (v ∷ vs) = bytes_of f v ++ field_of fs vs
field_of _ _ = []

-- what a writer leaves: the bytes at the end, or what was there
abbrev pub appended : Result (Unit {0}) AllocError → List ℕ → List ℕ → List ℕ
appended result old bytes = if is_ok result then old ++ bytes else old

-- ---- a field that repeats a group of subfields

-- the bytes of a value, where its format says how many
abbrev pub size : Format → ℕ
size b11 = 1
size b12 = 2
size b14 = 4
size b24 = 4
size A = 0
size (As n) = n

-- the bytes of a group
abbrev pub group_size : List Format → ℕ
group_size [] = 0
group_size (f ∷ fs) = size f + group_size fs

-- the values of group k, from 0, where it is there to its end
abbrev pub values_of_group : List Format → ℕ → List ℕ → Option (List Value)
values_of_group fs k bytes =
    if nat_lt k (length bytes / group_size fs) then values_in fs (take (group_size fs) (drop (k * group_size fs) bytes)) else None

-- an attribute at the beginning: its code, its text, and the number of bytes that it takes
abbrev pub attribute_at : List ℕ → Option (ℕ × (List ℕ × ℕ))
attribute_at bytes = do
  code ← number_at w16 bytes
  text ← text_at code.1
  Some (code.0, (text.0, length bytes - length text.1))

-- ---- values that can be written

-- a text without the byte 0x1F, which would end it
abbrev pub is_text : List ℕ → Bool
is_text text = list_all (λ byte. not (byte == 31)) text

-- a value that a format can hold
abbrev pub Fits : Format → Value → Type 0
Fits b11 (N n) = n < 2 ^ 8
Fits b12 (N n) = n < 2 ^ 16
Fits b14 (N n) = n < 2 ^ 32
Fits b24 (Z z) = FitsSigned w32 z
Fits A (T text) = is_text text ≡ true
Fits (As n) (T text) = length text ≡ n
Fits _ _ = ⊥

abbrev pub AllFit : List Format → List Value → Type 0
AllFit [] [] = Unit {0}
AllFit (f ∷ fs) (v ∷ vs) = Fits f v × AllFit fs vs
AllFit _ _ = ⊥

-- a format whose values all have as many bytes
abbrev pub is_fixed : Format → Bool
is_fixed A = false
is_fixed _ = true
