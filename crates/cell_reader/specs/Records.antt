-- What the data records of a file stand for, one after the other, and the first fault. In each record the tests of its kind
-- come before those of its values.
use Rattle.std.specs.Prelude.{ℕ, not, eqb, cond, List, [], ◌∷◌, ◌++◌, map, Option, Some, None, Result, Ok, Err}
use Rattle.std.specs.Option.{ok_or, is_some}
use Rattle.chart_model.specs.declared.records.Connected.{Connected}
use Rattle.chart_model.specs.declared.records.Edge.{Edge}
use Rattle.chart_model.specs.declared.records.Feature.{Feature}
use Rattle.chart_model.specs.declared.records.Isolated.{Isolated}
use Rattle.s57_codes.specs.Catalogue.{rcnm_connected_node, rcnm_isolated_node, tag_0001, tag_dsid, tag_dspm, tag_dssi, tag_foid, tag_frid, tag_vrid}
use Rattle.iso8211_codec.specs.Reading.{Seen, Rec, seen}
use Rattle.iso8211_codec.specs.declared.fault.CodecFault.{CodecFault}
use Rattle.s57_records.specs.Formats.{Value}
use Rattle.chart_model.specs.declared.records.Sounding.{Sounding}
use Rattle.s57_records.specs.declared.pointer.Vrpt.{Vrpt}
use Rattle.s57_records.specs.declared.vrid.Vrid.{Vrid}
use Rattle.plane_geom.specs.declared.Point.{Point}
use Rattle.cell_reader.specs.declared.fault.CellFault.{CellFault}
use Rattle.cell_reader.specs.declared.fault.CellFault.TheVariants as fault
use Rattle.readings.specs.Readings.{◌>>=◌, need}
use Rattle.cell_reader.specs.Faults.{of_codec}
use Rattle.cell_reader.specs.Headers.{DataSet, structure_in, units_in}
use Rattle.cell_reader.specs.Identifiers.{vector_in, feature_in}
use Rattle.record_values.specs.DataSets.{identity_in}
use Rattle.record_values.specs.Features.{name_in, feature_of}
use Rattle.record_values.specs.Fields.{only, leads}
use Rattle.record_values.specs.Groups.{points, soundings, ends}
use Rattle.record_values.specs.Vectors.{has_whole_groups, is_known, isolated_of, connected_of, edge_of}

-- What the records read so far stand for: the data set and its parameters where they have come, and lists in the order of
-- the file.
pub record ReadRecords : Type 0 where
  pub data_set : Option DataSet
  pub units : Option (List Value)
  pub isolated : List Isolated
  pub connected : List Connected
  pub edges : List Edge
  pub features : List Feature

abbrev pub nothing : ReadRecords
nothing = record { data_set = None; units = None; isolated = []; connected = []; edges = []; features = [] }

-- ---- the data set and its parameters, each at most once

unfoldable pub data_set : ℕ → List Seen → ReadRecords → Result ReadRecords CellFault
data_set at fields d = do
  first ← need (not (is_some d.data_set)) (fault.Kind at)
  id ← ok_or (only tag_0001 fields) (fault.Kind at)
  identity ← ok_or (only tag_dsid fields) (fault.Kind at)
  structure ← ok_or (only tag_dssi fields) (fault.Kind at)
  set ← ok_or (identity_in identity) (fault.Value at)
  topology ← ok_or (structure_in structure) (fault.Value at)
  Ok (record d { data_set = Some (record { identity = set; structure = topology }) })

unfoldable pub parameters : ℕ → List Seen → ReadRecords → Result ReadRecords CellFault
parameters at fields d = do
  first ← need (not (is_some d.units)) (fault.Kind at)
  id ← ok_or (only tag_0001 fields) (fault.Kind at)
  body ← ok_or (only tag_dspm fields) (fault.Kind at)
  units ← ok_or (units_in body) (fault.Value at)
  Ok (record d { units = Some units })

-- ---- vector records

abbrev pub add_isolated : ℕ → Vrid → List Point → List Sounding → ReadRecords → Result ReadRecords CellFault
add_isolated at v points soundings d = do
  node ← ok_or (isolated_of v points soundings) (fault.Value at)
  Ok (record d { isolated = d.isolated ++ node ∷ [] })

abbrev pub add_connected : ℕ → Vrid → List Point → List Sounding → ReadRecords → Result ReadRecords CellFault
add_connected at v points soundings d = do
  node ← ok_or (connected_of v points soundings) (fault.Value at)
  Ok (record d { connected = d.connected ++ node ∷ [] })

abbrev pub add_edge : ℕ → Vrid → List Vrpt → List Point → List Sounding → ReadRecords → Result ReadRecords CellFault
add_edge at v ends points soundings d = do
  edge ← ok_or (edge_of v ends points soundings) (fault.Value at)
  Ok (record d { edges = d.edges ++ edge ∷ [] })

-- what a record with this identifier adds
unfoldable pub add_vector : ℕ → Vrid → List Seen → ReadRecords → Result ReadRecords CellFault
add_vector at v fields d =
    cond (eqb v.rcnm rcnm_isolated_node) (add_isolated at v (points fields) (soundings fields) d)
    (cond (eqb v.rcnm rcnm_connected_node) (add_connected at v (points fields) (soundings fields) d)
    (add_edge at v (ends fields) (points fields) (soundings fields) d))

unfoldable pub vector : ℕ → List Seen → ReadRecords → Result ReadRecords CellFault
vector at fields d = do
  id ← ok_or (only tag_0001 fields) (fault.Kind at)
  body ← ok_or (only tag_vrid fields) (fault.Kind at)
  known ← need (is_known body) (fault.Kind at)
  v ← ok_or (vector_in body) (fault.Value at)
  whole ← need (has_whole_groups fields) (fault.Value at)
  add_vector at v fields d

-- ---- feature records

unfoldable pub feature : ℕ → List Seen → ReadRecords → Result ReadRecords CellFault
feature at fields d = do
  id ← ok_or (only tag_0001 fields) (fault.Kind at)
  identifier ← ok_or (only tag_frid fields) (fault.Kind at)
  name ← ok_or (only tag_foid fields) (fault.Kind at)
  f ← ok_or (feature_in identifier) (fault.Value at)
  o ← ok_or (name_in name) (fault.Value at)
  new ← ok_or (feature_of f o fields) (fault.Value at)
  Ok (record d { features = d.features ++ new ∷ [] })

-- ---- any record

-- what is there after a record at this offset with these fields
unfoldable pub after_record : ℕ → List Seen → ReadRecords → Result ReadRecords CellFault
after_record at fields d =
    cond (leads tag_dsid fields) (data_set at fields d)
    (cond (leads tag_dspm fields) (parameters at fields d)
    (cond (leads tag_vrid fields) (vector at fields d)
    (cond (leads tag_frid fields) (feature at fields d) (Err (fault.Kind at)))))

-- what is there after all records, as a walk through the file answers them
abbrev pub contents_after : ReadRecords → List (Result Rec CodecFault) → Result ReadRecords CellFault
contents_after d [] = Ok d
contents_after d (Err e ∷ answers) = Err (of_codec e)
contents_after d (Ok r ∷ answers) = do
  next ← after_record r.at (map seen r.parts) d
  contents_after next answers
