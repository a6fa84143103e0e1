-- What feature records stand for (S-57 Edition 3.1, Part 3, 7.6).
use Rattle.std.specs.Prelude.{ℕ, ◌&&◌, cond, List, [], ◌∷◌, Option, Some, None}
use Rattle.chart_model.specs.Whole.{is_made}
use Rattle.chart_model.specs.declared.records.Attribute.{Attribute}
use Rattle.chart_model.specs.declared.records.Feature.{Feature}
use Rattle.chart_model.specs.declared.records.Pointer.{Pointer}
use Rattle.iso8211_codec.specs.Reading.{Seen}
use Rattle.readings.specs.Finds.{◌>>=◌}
use Rattle.s57_codes.specs.Catalogue.{tag_fspt}
use Rattle.s57_records.specs.Fields.{foid}
use Rattle.s57_records.specs.Formats.{Value, N, values_in}
use Rattle.s57_records.specs.declared.feature.Foid.{Foid}
use Rattle.s57_records.specs.declared.feature.Frid.{Frid}
use Rattle.record_values.specs.Attributes.{attributes}
use Rattle.record_values.specs.Fields.{are_whole}
use Rattle.record_values.specs.Groups.{pointers}

abbrev pub name_of : List Value → Option Foid
name_of (N agen ∷ N fidn ∷ N fids ∷ []) = Some (record { agen = agen; fidn = fidn; fids = fids })
name_of _ = None

abbrev pub name_in : List ℕ → Option Foid
name_in body = values_in foid body >>= name_of

abbrev pub feature_with : Frid → Foid → List Attribute → List Pointer → Feature
feature_with f o attributes pointers = record {
  rcid = f.rcid;
  rver = f.rver;
  prim = f.prim;
  grup = f.grup;
  objl = f.objl;
  agen = o.agen;
  fidn = o.fidn;
  fids = o.fids;
  attributes = attributes;
  pointers = pointers;
}

-- the feature that a record with this identifier and this name stands for: its attributes and pointers are of their formats,
-- and it points at what its PRIM is made of
abbrev pub feature_of : Frid → Foid → List Seen → Option Feature
feature_of f o fields = do
  texts ← attributes fields
  cond (are_whole 8 tag_fspt fields && is_made (feature_with f o texts (pointers fields))) (Some (feature_with f o texts (pointers fields))) None
