-- The identifiers of vector records and feature records of a cell, all of which are inserted (S-57 Edition 3.1, Part 3, 7.6.1
-- and 7.7.1.1).
use Rattle.std.specs.Prelude.{ℕ, ◌&&◌, eqb, cond, List, [], ◌∷◌, Option, Some, None}
use Rattle.s57_records.specs.Fields.{vrid, frid}
use Rattle.readings.specs.Finds.{◌>>=◌}
use Rattle.s57_records.specs.Formats.{Value, N, values_in}
use Rattle.s57_codes.specs.Catalogue.{inserted, rcnm_feature}
use Rattle.s57_records.specs.declared.feature.Frid.{Frid}
use Rattle.s57_records.specs.declared.vrid.Vrid.{Vrid}

abbrev pub vector_identifier : List Value → Option Vrid
vector_identifier (N rcnm ∷ N rcid ∷ N rver ∷ N ruin ∷ []) = cond (eqb ruin inserted) (Some (record { rcnm = rcnm; rcid = rcid; rver = rver; ruin = ruin })) None
vector_identifier _ = None

abbrev pub vector_in : List ℕ → Option Vrid
vector_in body = values_in vrid body >>= vector_identifier

-- FRID of the record of a feature
abbrev pub feature_identifier : List Value → Option Frid
feature_identifier (N rcnm ∷ N rcid ∷ N prim ∷ N grup ∷ N objl ∷ N rver ∷ N ruin ∷ []) =
    cond (eqb rcnm rcnm_feature && eqb ruin inserted) (Some (record { rcnm = rcnm; rcid = rcid; prim = prim; grup = grup; objl = objl; rver = rver; ruin = ruin })) None
feature_identifier _ = None

abbrev pub feature_in : List ℕ → Option Frid
feature_in body = values_in frid body >>= feature_identifier
