-- The layout of a data record that is written: five digits for a length and for a position.
use Rattle.std.specs.Prelude.{◌≡◌, ℕ, ◌+◌, ◌-◌, ◌*◌, ◌<◌, ◌≤◌, IsTrue, Bool, ◌==◌, List, [], ◌∷◌, ◌++◌, length, map, take, drop, slice_index, codes}
use Rattle.std.specs.List.{sum, list_all, flat_map, AllByRecursion}
use Rattle.iso8211_codec.specs.Digits.{five}
use Rattle.iso8211_codec.specs.Reading.{Part}

-- the base address of a record with fields of these lengths: after a leader of 24 bytes, an entry of 14 for each field (a tag
-- of 4, and 5 digits each for its length and its position) and 0x1E
abbrev pub base : List ℕ → ℕ
base lens = 25 + 14 * length lens

-- the length of the record
abbrev pub size : List ℕ → ℕ
size lens = base lens + sum lens

-- an entry for each field, the first of which lies at this place
abbrev pub entries_from : ℕ → List (List ℕ) → List ℕ → List ℕ
entries_from from [] lens = []
entries_from from (t ∷ tags) [] = []
entries_from from (t ∷ tags) (n ∷ lens) = t ++ (five n ++ (five from ++ entries_from (from + n) tags lens))

abbrev pub leader : ℕ → ℕ → List ℕ
leader size base = five size ++ (codes " D     " ++ (five base ++ codes "   5504"))

-- the record of fields with these tags and lengths, whose bytes stand one after the other
abbrev pub layout : List (List ℕ) → List ℕ → List ℕ → List ℕ
layout tags lens bodies = leader (size lens) (base lens) ++ (entries_from 0 tags lens ++ (30 ∷ bodies))

-- the fields of these tags and lengths
abbrev pub cut : List (List ℕ) → List ℕ → List ℕ → List Part
cut [] lens bytes = []
cut (t ∷ tags) [] bytes = []
cut (t ∷ tags) (n ∷ lens) bytes = record { tag = t; bytes = take n bytes } ∷ cut tags lens (drop n bytes)

-- a field whose last byte is 0x1E
abbrev pub is_ended : Part → Bool
is_ended p = slice_index p.bytes (length p.bytes - 1) == 30

-- tags, lengths and bytes of fields that make a record
pub record AreFields (tags : List (List ℕ)) (lens bodies : List ℕ) : Type 0 where
  pub some : 1 ≤ length lens
  pub paired : length tags ≡ length lens
  pub full : AllByRecursion (λ n. 1 ≤ n) lens
  pub whole : sum lens ≡ length bodies
  pub fits : size lens < 100000
  pub ended : IsTrue (list_all is_ended (cut tags lens bodies))

-- ---- the same, of a list of fields

abbrev pub tags_of : List Part → List (List ℕ)
tags_of parts = map (λ p. p.tag) parts

abbrev pub lens_of : List Part → List ℕ
lens_of parts = map (λ p. length p.bytes) parts

-- the bytes of fields, one after the other
abbrev pub bytes_of : List Part → List ℕ
bytes_of parts = flat_map (λ p. p.bytes) parts

-- the record of these fields
abbrev pub record_of : List Part → List ℕ
record_of parts = layout (tags_of parts) (lens_of parts) (bytes_of parts)

-- a tag of four bytes, and 0x1E at the end
pub record IsField (p : Part) : Type 0 where
  pub named : length p.tag ≡ 4
  pub ended : IsTrue (is_ended p)

-- fields that make a record
pub record MakeRecord (parts : List Part) : Type 0 where
  pub some : 1 ≤ length parts
  pub each : AllByRecursion IsField parts
  pub fits : size (lens_of parts) < 100000
