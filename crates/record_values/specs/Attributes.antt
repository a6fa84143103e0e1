-- The attributes of a feature: each a code and a text that 0x1F ends (S-57 Edition 3.1, Part 3, 7.6.3).
use Rattle.std.specs.Prelude.{ℕ, zero, suc, List, [], ◌∷◌, ◌++◌, length, drop, Option, Some, None}
use Rattle.chart_model.specs.declared.records.Attribute.{Attribute}
use Rattle.iso8211_codec.specs.Reading.{Seen}
use Rattle.readings.specs.Finds.{◌>>=◌}
use Rattle.s57_records.specs.Formats.{attribute_at}
use Rattle.s57_codes.specs.Catalogue.{tag_attf}
use Rattle.record_values.specs.Fields.{bodies}

-- the attributes that the bytes are to their end, where they are no more than so many
abbrev pub attributes_at : ℕ → List ℕ → Option (List Attribute)
attributes_at turns [] = Some []
attributes_at zero (byte ∷ bytes) = None
attributes_at (suc turns) (byte ∷ bytes) = do
  first ← attribute_at (byte ∷ bytes)
  others ← attributes_at turns (drop first.1.1 (byte ∷ bytes))
  Some (record { code = first.0; text = first.1.0 } ∷ others)

-- the attributes of a body: each takes a byte at least, so there are no more than bytes
abbrev pub attributes_in : List ℕ → Option (List Attribute)
attributes_in body = attributes_at (length body) body

-- the attributes of several bodies
abbrev pub attributes_of : List (List ℕ) → Option (List Attribute)
attributes_of [] = Some []
attributes_of (body ∷ bodies) = do
  here ← attributes_in body
  others ← attributes_of bodies
  Some (here ++ others)

-- those of a record's fields ATTF
abbrev pub attributes : List Seen → Option (List Attribute)
attributes fields = attributes_of (bodies tag_attf fields)
