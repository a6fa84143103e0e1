-- How a modified record's pointers, points or soundings change, as its field FSPC or SGCC says (S-57 Edition 3.1, Part 3, 7.6.7
-- and 7.7.1.5).
use Rattle.std.specs.Prelude.{ℕ, eqb, cond, List, [], ◌∷◌, Option, Some, None, option_map}
use Rattle.iso8211_codec.specs.Reading.{Seen}
use Rattle.readings.specs.Finds.{◌>>=◌}
use Rattle.s57_codes.specs.Catalogue.{inserted, deleted, modified}
use Rattle.s57_records.specs.Formats.{Format, Value, N, values_in}
use Rattle.record_values.specs.Fields.{only}
use Rattle.update_reader.specs.declared.change.Splice.{Splice}
use Rattle.update_reader.specs.Kinds.{has_field}

-- so many items are inserted, deleted or replaced at a place; there is no other instruction
abbrev pub splice_of : ℕ → ℕ → ℕ → Option Splice
splice_of instruction place count =
    cond (eqb instruction inserted) (Some (record { place = place; going = 0; coming = count }))
    (cond (eqb instruction deleted) (Some (record { place = place; going = count; coming = 0 }))
    (cond (eqb instruction modified) (Some (record { place = place; going = count; coming = count })) None))

abbrev pub splice_values : List Value → Option Splice
splice_values (N instruction ∷ N place ∷ N count ∷ []) = splice_of instruction place count
splice_values _ = None

-- a body of this format, which FSPC and SGCC share
abbrev pub splice_in : List Format → List ℕ → Option Splice
splice_in format body = values_in format body >>= splice_values

-- the splice that the one field with a tag gives, where there is one; None where it is malformed
abbrev pub splice : List Format → List ℕ → List Seen → Option (Option Splice)
splice format tag fields = cond (has_field tag fields) (option_map Some (only tag fields >>= splice_in format)) (Some None)
