-- What a data set is, by its record (S-57 Edition 3.1, Part 3, 7.3.1).
use Rattle.std.specs.Prelude.{ℕ, Bool, false, eqb, cond, List, ◌∷◌, Option, Some, None}
use Rattle.s57_records.specs.Fields.{dsid}
use Rattle.readings.specs.Finds.{◌>>=◌}
use Rattle.s57_records.specs.Formats.{Value, N, values_in}
use Rattle.s57_codes.specs.Catalogue.{rcnm_data_set}

-- DSID of the record of a data set
abbrev pub is_identity : List Value → Bool
is_identity (N rcnm ∷ values) = eqb rcnm rcnm_data_set
is_identity _ = false

abbrev pub identity_in : List ℕ → Option (List Value)
identity_in body = do
  values ← values_in dsid body
  cond (is_identity values) (Some values) None
