-- Which fields stand in a record of an update, and how often.
use Rattle.std.specs.Prelude.{ℕ, Bool, false, eqb, nat_le, nat_lt, List, [], ◌∷◌, length, Option, Some}
use Rattle.std.specs.List.{list_all}
use Rattle.iso8211_codec.specs.Reading.{Seen}
use Rattle.s57_codes.specs.Catalogue.{inserted, tag_0001, tag_dsid, tag_dssi, tag_foid, tag_frid, tag_fspc, tag_sgcc, tag_vrid}
use Rattle.s57_records.specs.Fields.{frid}
use Rattle.s57_records.specs.Formats.{Value, N, values_in}
use Rattle.record_values.specs.Fields.{bodies}

-- whether a field with this tag stands in a record, also an empty one
abbrev pub has_field : List ℕ → List Seen → Bool
has_field tag fields = nat_lt 0 (length (bodies tag fields))

-- whether there is no second field with this tag
abbrev pub is_single : List Seen → List ℕ → Bool
is_single fields tag = nat_le (length (bodies tag fields)) 1

-- the fields that stand at most once in a record, of whatever kind it is
abbrev pub single_tags : List (List ℕ)
single_tags = tag_0001 ∷ tag_dsid ∷ tag_dssi ∷ tag_vrid ∷ tag_frid ∷ tag_foid ∷ tag_fspc ∷ tag_sgcc ∷ []

abbrev pub are_single : List Seen → Bool
are_single fields = list_all (is_single fields) single_tags

-- a body of FRID that is of its format and inserts
abbrev pub is_insert : Option (List Value) → Bool
is_insert (Some (N rcnm ∷ N rcid ∷ N prim ∷ N grup ∷ N objl ∷ N rver ∷ N ruin ∷ [])) = eqb ruin inserted
is_insert _ = false

abbrev pub inserts : List ℕ → Bool
inserts body = is_insert (values_in frid body)
