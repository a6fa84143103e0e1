-- The parts that records give may be a chart.
use Rattle.std.proofs.Common.{◌≡◌, ℕ, zero, suc, ◌+◌, ◌-◌, ◌<◌, ◌≤◌, List, [], ◌∷◌, ◌++◌, length, map, Bool, true, false, not, Option, Some, None, Result, Ok, Err, IsTrue, refl, ◌∙◌, subst, arith, cond}
use Rattle.std.specs.Prelude.{eqb, IfOk}
use Rattle.std.specs.Option.{ok_or, is_some}
use Rattle.std.proofs.lemmas.List.{length_push}
use Rattle.std.proofs.lemmas.List.Elements.{All-push, All-nil, All-weaker}
use Rattle.std.specs.List.{All}
use Rattle.chart_model.specs.Whole.{is_made, has_some, first_fault, IsText, IsWellFormed}
use Rattle.chart_model.specs.Whole as whole
use Rattle.chart_model.specs.declared.fault.PartFault.{PartFault}
use Rattle.chart_model.specs.declared.records.Header.{Header}
use Rattle.chart_model.specs.declared.records.Parts.{Parts}
use Rattle.chart_model.specs.Tally.{soundings_of, IsMeasured}
use Rattle.s57_codes.specs.Catalogue.{rcnm_connected_node, rcnm_isolated_node, tag_0001, tag_dsid, tag_dspm, tag_dssi, tag_foid, tag_frid, tag_vrid}
use Rattle.chart_model.specs.declared.records.Attribute.{Attribute}
use Rattle.chart_model.specs.declared.records.Connected.{Connected}
use Rattle.chart_model.specs.declared.records.Edge.{Edge}
use Rattle.chart_model.specs.declared.records.Feature.{Feature}
use Rattle.chart_model.specs.declared.records.Isolated.{Isolated}
use Rattle.iso8211_codec.specs.Law.{RecordLaws}
use Rattle.iso8211_codec.specs.Reading.{Rec, Seen, seen, data_record, first_record}
use Rattle.iso8211_codec.specs.Walk.{and_then, walk, answers}
use Rattle.iso8211_codec.specs.declared.fault.CodecFault.{CodecFault}
use Rattle.plane_geom.specs.declared.Point.{Point}
use Rattle.s57_records.specs.Fields.{dsid, dspm, dsid_values, dspm_values}
use Rattle.s57_records.specs.declared.dsid.Dsid.{Dsid}
use Rattle.s57_records.specs.declared.dspm.Dspm.{Dspm}
use Rattle.s57_records.specs.Formats.{Value, values_in}
use Rattle.s57_records.specs.declared.dssi.Dssi.{Dssi}
use Rattle.s57_records.specs.declared.vrid.Vrid.{Vrid}
use Rattle.cell_reader.specs.declared.fault.CellFault.{CellFault}
use Rattle.cell_reader.specs.declared.fault.CellFault.TheVariants as fault
use Rattle.cell_reader.specs.Faults.{Gives}
use Rattle.readings.specs.Readings.{◌>>=◌, need}
use Rattle.readings.proofs.Steps.{bind_ok, bind_some, ok_or_ok, same_ok}
use Rattle.cell_reader.specs.Headers.{DataSet, are_units, structure_in, units_in, header_of}
use Rattle.cell_reader.specs.Identifiers.{vector_in, feature_in}
use Rattle.cell_reader.specs.Records.{ReadRecords, nothing, data_set, parameters, add_vector, vector, feature, after_record, contents_after}
use Rattle.record_values.specs.DataSets.{identity_in}
use Rattle.record_values.specs.Features.{name_in, feature_of}
use Rattle.record_values.specs.Fields.{only, leads}
use Rattle.record_values.specs.Groups.{points, soundings, ends}
use Rattle.record_values.specs.Vectors.{has_whole_groups, is_known, isolated_of, connected_of, edge_of}
use Rattle.cell_reader.specs.Reading.{header_and_counts, parts_of, parts_or_fault, need_count, need_counts, chart_of, IsWithin}
use Rattle.cell_reader.specs.Sound.{IsSound}
use Rattle.record_values.specs.Sound.{IsSoundIsolated, IsSoundFeature, HasTexts}
use Rattle.record_values.proofs.Sizes.{weight, record_few, first_short}
use Rattle.record_values.proofs.Sounds.{few_points, few_soundings, isolated_is, edge_is, identity_is, feature_is as feature_found}
use Rattle.record_values.proofs.Texts.{values_are}

same_some : {A : Type 0} (x y : A) → Some x ≡ Some y → x ≡ y
same_some x y h = cc

-- ---- more contents

abbrev with_set : ReadRecords → Option DataSet → ReadRecords
with_set d set = record { data_set = set; units = d.units; isolated = d.isolated; connected = d.connected; edges = d.edges; features = d.features }

abbrev with_units : ReadRecords → Option (List Value) → ReadRecords
with_units d units = record { data_set = d.data_set; units = units; isolated = d.isolated; connected = d.connected; edges = d.edges; features = d.features }

abbrev with_isolated : ReadRecords → Isolated → ReadRecords
with_isolated d n = record { data_set = d.data_set; units = d.units; isolated = d.isolated ++ n ∷ []; connected = d.connected; edges = d.edges; features = d.features }

abbrev with_connected : ReadRecords → Connected → ReadRecords
with_connected d n = record { data_set = d.data_set; units = d.units; isolated = d.isolated; connected = d.connected ++ n ∷ []; edges = d.edges; features = d.features }

abbrev with_edge : ReadRecords → Edge → ReadRecords
with_edge d e = record { data_set = d.data_set; units = d.units; isolated = d.isolated; connected = d.connected; edges = d.edges ++ e ∷ []; features = d.features }

abbrev with_feature : ReadRecords → Feature → ReadRecords
with_feature d f = record { data_set = d.data_set; units = d.units; isolated = d.isolated; connected = d.connected; edges = d.edges; features = d.features ++ f ∷ [] }

module _ (size : ℕ) (d : ReadRecords) (sound : IsSound size d) where
  pub more : (k : ℕ) → size ≤ k → IsSound k d
  more k h = record {
    identity = sound.identity;
    units = sound.units;
    isolated = sound.isolated;
    edges = sound.edges;
    features = sound.features;
    few_isolated = omega (arith, sound.few_isolated);
    few_connected = omega (arith, sound.few_connected);
    few_edges = omega (arith, sound.few_edges);
    few_features = omega (arith, sound.few_features);
  }

  set_sound : (s : DataSet) → HasTexts dsid s.identity → IsSound (size + 24) (with_set d (Some s))
  set_sound s h = record {
    identity = h;
    units = sound.units;
    isolated = sound.isolated;
    edges = sound.edges;
    features = sound.features;
    few_isolated = omega (arith, sound.few_isolated);
    few_connected = omega (arith, sound.few_connected);
    few_edges = omega (arith, sound.few_edges);
    few_features = omega (arith, sound.few_features);
  }

  units_sound : (vs : List Value) → HasTexts dspm vs → IsSound (size + 24) (with_units d (Some vs))
  units_sound vs h = record {
    identity = sound.identity;
    units = h;
    isolated = sound.isolated;
    edges = sound.edges;
    features = sound.features;
    few_isolated = omega (arith, sound.few_isolated);
    few_connected = omega (arith, sound.few_connected);
    few_edges = omega (arith, sound.few_edges);
    few_features = omega (arith, sound.few_features);
  }

  isolated_sound : (n : Isolated) → IsSoundIsolated n → IsSound (size + 24) (with_isolated d n)
  isolated_sound n h = record {
    identity = sound.identity;
    units = sound.units;
    isolated = All-push IsSoundIsolated d.isolated n sound.isolated h;
    edges = sound.edges;
    features = sound.features;
    few_isolated = omega (arith, length_push d.isolated n, sound.few_isolated);
    few_connected = omega (arith, sound.few_connected);
    few_edges = omega (arith, sound.few_edges);
    few_features = omega (arith, sound.few_features);
  }

  connected_sound : (n : Connected) → IsSound (size + 24) (with_connected d n)
  connected_sound n = record {
    identity = sound.identity;
    units = sound.units;
    isolated = sound.isolated;
    edges = sound.edges;
    features = sound.features;
    few_isolated = omega (arith, sound.few_isolated);
    few_connected = omega (arith, length_push d.connected n, sound.few_connected);
    few_edges = omega (arith, sound.few_edges);
    few_features = omega (arith, sound.few_features);
  }

  edge_sound : (e : Edge) → length e.inner ≤ 12500 → IsSound (size + 24) (with_edge d e)
  edge_sound e h = record {
    identity = sound.identity;
    units = sound.units;
    isolated = sound.isolated;
    edges = All-push (λ (x : Edge). length x.inner ≤ 12500) d.edges e sound.edges h;
    features = sound.features;
    few_isolated = omega (arith, sound.few_isolated);
    few_connected = omega (arith, sound.few_connected);
    few_edges = omega (arith, length_push d.edges e, sound.few_edges);
    few_features = omega (arith, sound.few_features);
  }

  feature_sound : (f : Feature) → IsSoundFeature f → IsSound (size + 24) (with_feature d f)
  feature_sound f h = record {
    identity = sound.identity;
    units = sound.units;
    isolated = sound.isolated;
    edges = sound.edges;
    features = All-push IsSoundFeature d.features f sound.features h;
    few_isolated = omega (arith, sound.few_isolated);
    few_connected = omega (arith, sound.few_connected);
    few_edges = omega (arith, sound.few_edges);
    few_features = omega (arith, length_push d.features f, sound.few_features);
  }

-- ---- the data set and its parameters

chosen : {X : Type 0} (b : Bool) (x y : X) → cond b (Some x) None ≡ Some y → x ≡ y
chosen true x y h = cc
chosen false x y h = cc

units_are : (body : List ℕ) (vs : List Value) → units_in body ≡ Some vs → HasTexts dspm vs
units_are body vs h =
    let read = bind_some (values_in dspm body) _ vs h in
    subst (HasTexts dspm) (chosen (are_units read.0) read.0 vs read.2) (values_are dspm body read.0 read.1)

data_set_is : (size at : ℕ) (fields : List Seen) (d e : ReadRecords) → IsSound size d → data_set at fields d ≡ Ok e → IsSound (size + 24) e
unfolding data_set
data_set_is size at fields d e sound h =
    let first = bind_ok (need (not (is_some d.data_set)) (fault.Kind at)) _ e h in
    let id = bind_ok (ok_or (only tag_0001 fields) (fault.Kind at)) _ e first.2 in
    let identity = bind_ok (ok_or (only tag_dsid fields) (fault.Kind at)) _ e id.2 in
    let structure = bind_ok (ok_or (only tag_dssi fields) (fault.Kind at)) _ e identity.2 in
    let set = bind_ok (ok_or (identity_in identity.0) (fault.Value at)) _ e structure.2 in
    let topology = bind_ok (ok_or (structure_in structure.0) (fault.Value at)) _ e set.2 in
    subst (IsSound (size + 24)) (same_ok _ e topology.2) (set_sound size d sound (record { identity = set.0; structure = topology.0 }) (identity_is identity.0 set.0 (ok_or_ok (identity_in identity.0) (fault.Value at) set.0 set.1)))

parameters_are : (size at : ℕ) (fields : List Seen) (d e : ReadRecords) → IsSound size d → parameters at fields d ≡ Ok e → IsSound (size + 24) e
unfolding parameters
parameters_are size at fields d e sound h =
    let first = bind_ok (need (not (is_some d.units)) (fault.Kind at)) _ e h in
    let id = bind_ok (ok_or (only tag_0001 fields) (fault.Kind at)) _ e first.2 in
    let body = bind_ok (ok_or (only tag_dspm fields) (fault.Kind at)) _ e id.2 in
    let units = bind_ok (ok_or (units_in body.0) (fault.Value at)) _ e body.2 in
    subst (IsSound (size + 24)) (same_ok _ e units.2) (units_sound size d sound units.0 (units_are body.0 units.0 (ok_or_ok (units_in body.0) (fault.Value at) units.0 units.1)))

-- ---- vector records

module _ (size at : ℕ) (v : Vrid) (fields : List Seen) (d e : ReadRecords) (sound : IsSound size d) (small : weight fields < 100000) where
  add_isolated : (ok_or (isolated_of v (points fields) (soundings fields)) (fault.Value at) >>= λ node. Ok (with_isolated d node)) ≡ Ok e → IsSound (size + 24) e
  add_isolated h =
      let node = bind_ok (ok_or (isolated_of v (points fields) (soundings fields)) (fault.Value at)) _ e h in
      let is = isolated_is v (points fields) (soundings fields) node.0 (few_soundings fields small) (ok_or_ok (isolated_of v (points fields) (soundings fields)) (fault.Value at) node.0 node.1) in
      subst (IsSound (size + 24)) (same_ok _ e node.2) (isolated_sound size d sound node.0 is)

  add_connected : (ok_or (connected_of v (points fields) (soundings fields)) (fault.Value at) >>= λ node. Ok (with_connected d node)) ≡ Ok e → IsSound (size + 24) e
  add_connected h =
      let node = bind_ok (ok_or (connected_of v (points fields) (soundings fields)) (fault.Value at)) _ e h in
      subst (IsSound (size + 24)) (same_ok _ e node.2) (connected_sound size d sound node.0)

  add_edge : (ok_or (edge_of v (ends fields) (points fields) (soundings fields)) (fault.Value at) >>= λ edge. Ok (with_edge d edge)) ≡ Ok e → IsSound (size + 24) e
  add_edge h =
      let edge = bind_ok (ok_or (edge_of v (ends fields) (points fields) (soundings fields)) (fault.Value at)) _ e h in
      let is = edge_is v (ends fields) (points fields) (soundings fields) edge.0 (ok_or_ok (edge_of v (ends fields) (points fields) (soundings fields)) (fault.Value at) edge.0 edge.1) in
      subst (IsSound (size + 24)) (same_ok _ e edge.2) (edge_sound size d sound edge.0 (subst (λ (ps : List Point). length ps ≤ 12500) is (few_points fields small)))

  add_vector_is : add_vector at v fields d ≡ Ok e → IsSound (size + 24) e
  unfolding add_vector
  add_vector_is h = first (eqb v.rcnm rcnm_isolated_node) h
    where
      second : (b : Bool) → cond b (ok_or (connected_of v (points fields) (soundings fields)) (fault.Value at) >>= λ node. Ok (with_connected d node)) (ok_or (edge_of v (ends fields) (points fields) (soundings fields)) (fault.Value at) >>= λ edge. Ok (with_edge d edge)) ≡ Ok e → IsSound (size + 24) e
      second true k = add_connected k
      second false k = add_edge k

      first : (b : Bool) → cond b (ok_or (isolated_of v (points fields) (soundings fields)) (fault.Value at) >>= λ node. Ok (with_isolated d node)) (cond (eqb v.rcnm rcnm_connected_node) (ok_or (connected_of v (points fields) (soundings fields)) (fault.Value at) >>= λ node. Ok (with_connected d node)) (ok_or (edge_of v (ends fields) (points fields) (soundings fields)) (fault.Value at) >>= λ edge. Ok (with_edge d edge))) ≡ Ok e → IsSound (size + 24) e
      first true k = add_isolated k
      first false k = second (eqb v.rcnm rcnm_connected_node) k

vector_is : (size at : ℕ) (fields : List Seen) (d e : ReadRecords) → IsSound size d → weight fields < 100000 → vector at fields d ≡ Ok e → IsSound (size + 24) e
unfolding vector
vector_is size at fields d e sound small h =
    let id = bind_ok (ok_or (only tag_0001 fields) (fault.Kind at)) _ e h in
    let body = bind_ok (ok_or (only tag_vrid fields) (fault.Kind at)) _ e id.2 in
    let known = bind_ok (need (is_known body.0) (fault.Kind at)) _ e body.2 in
    let v = bind_ok (ok_or (vector_in body.0) (fault.Value at)) _ e known.2 in
    let whole = bind_ok (need (has_whole_groups fields) (fault.Value at)) _ e v.2 in
    add_vector_is size at v.0 fields d e sound small whole.2

-- ---- feature records

feature_is : (size at : ℕ) (fields : List Seen) (d e : ReadRecords) → IsSound size d → weight fields < 100000 → feature at fields d ≡ Ok e → IsSound (size + 24) e
unfolding feature
feature_is size at fields d e sound small h =
    let id = bind_ok (ok_or (only tag_0001 fields) (fault.Kind at)) _ e h in
    let identifier = bind_ok (ok_or (only tag_frid fields) (fault.Kind at)) _ e id.2 in
    let name = bind_ok (ok_or (only tag_foid fields) (fault.Kind at)) _ e identifier.2 in
    let f = bind_ok (ok_or (feature_in identifier.0) (fault.Value at)) _ e name.2 in
    let o = bind_ok (ok_or (name_in name.0) (fault.Value at)) _ e f.2 in
    let new = bind_ok (ok_or (feature_of f.0 o.0 fields) (fault.Value at)) _ e o.2 in
    let is = feature_found f.0 o.0 fields new.0 small (ok_or_ok (feature_of f.0 o.0 fields) (fault.Value at) new.0 new.1) in
    subst (IsSound (size + 24)) (same_ok _ e new.2) (feature_sound size d sound new.0 is)

-- ---- any record

module _ (size at : ℕ) (fields : List Seen) (d e : ReadRecords) (sound : IsSound size d) (small : weight fields < 100000) where
  fourth : (b : Bool) → cond b (feature at fields d) (Err (fault.Kind at)) ≡ Ok e → IsSound (size + 24) e
  fourth true h = feature_is size at fields d e sound small h
  fourth false h = cc

  third : (b : Bool) → cond b (vector at fields d) (cond (leads tag_frid fields) (feature at fields d) (Err (fault.Kind at))) ≡ Ok e → IsSound (size + 24) e
  third true h = vector_is size at fields d e sound small h
  third false h = fourth (leads tag_frid fields) h

  second : (b : Bool) → cond b (parameters at fields d) (cond (leads tag_vrid fields) (vector at fields d) (cond (leads tag_frid fields) (feature at fields d) (Err (fault.Kind at)))) ≡ Ok e → IsSound (size + 24) e
  second true h = parameters_are size at fields d e sound h
  second false h = third (leads tag_vrid fields) h

  first : (b : Bool) → cond b (data_set at fields d) (cond (leads tag_dspm fields) (parameters at fields d) (cond (leads tag_vrid fields) (vector at fields d) (cond (leads tag_frid fields) (feature at fields d) (Err (fault.Kind at))))) ≡ Ok e → IsSound (size + 24) e
  first true h = data_set_is size at fields d e sound h
  first false h = second (leads tag_dspm fields) h

  after_record_is : after_record at fields d ≡ Ok e → IsSound (size + 24) e
  unfolding after_record
  after_record_is h = first (leads tag_dsid fields) h

-- ---- all records

next_sound : RecordLaws → (turns size at : ℕ) (bytes : List ℕ) (d e : ReadRecords) (r : Result (Rec × List ℕ) CodecFault) → IsSound size d → data_record at bytes ≡ r
    → ((size' at' : ℕ) (rest : List ℕ) (d' : ReadRecords) → IsSound size' d' → contents_after d' (walk turns at' rest) ≡ Ok e → IsSound (size' + length rest) e)
    → contents_after d (and_then r (λ rest. walk turns (at + (length bytes - length rest)) rest)) ≡ Ok e → IsSound (size + length bytes) e
next_sound laws turns size at bytes d e (Err f) sound is further h = cc
next_sound laws turns size at bytes d e (Ok x) sound is further h =
    let few = record_few laws at bytes x is in
    let next = bind_ok (after_record x.0.at (map seen x.0.parts) d) _ e h in
    let here = after_record_is size x.0.at (map seen x.0.parts) d next.0 sound few.1 next.1 in
    let all = further (size + 24) (at + (length bytes - length x.1)) x.1 next.0 here next.2 in
    more ((size + 24) + length x.1) e all (size + length bytes) (omega (arith, few.0))

-- what all records of these bytes give
pub all_sound : RecordLaws → (turns size at : ℕ) (bytes : List ℕ) (d e : ReadRecords) → IsSound size d → contents_after d (walk turns at bytes) ≡ Ok e → IsSound (size + length bytes) e
unfolding walk
all_sound laws zero size at bytes d e sound h = subst (IsSound (size + length bytes)) (same_ok d e h) (more size d sound (size + length bytes) (omega arith))
all_sound laws (suc turns) size at [] d e sound h = subst (IsSound (size + 0)) (same_ok d e h) (more size d sound (size + 0) (omega arith))
all_sound laws (suc turns) size at (byte ∷ bytes) d e sound h =
    next_sound laws turns size at (byte ∷ bytes) d e (data_record at (byte ∷ bytes)) sound refl (λ size' at' rest d' here k. all_sound laws turns size' at' rest d' e here k) h

pub nothing_sound : IsSound 0 nothing
nothing_sound = record {
  identity = tt;
  units = tt;
  isolated = All-nil IsSoundIsolated;
  edges = All-nil (λ (x : Edge). length x.inner ≤ 12500);
  features = All-nil IsSoundFeature;
  few_isolated = omega arith;
  few_connected = omega arith;
  few_edges = omega arith;
  few_features = omega arith;
}

-- ---- as a chart

header_texts : (d : Dsid) (s : Dssi) (p : Dspm) (header : Header) → HasTexts dsid (dsid_values d) → HasTexts dspm (dspm_values p)
    → header_of (dsid_values d) s (dspm_values p) ≡ Some header → whole.HasTexts header
header_texts d s p header a b h =
    subst whole.HasTexts (same_some _ header h) (record { dsnm = a.0; edtn = a.1.0; updn = a.1.1.0; psdn = a.1.1.1.0; pred = a.1.1.1.1.0; comt = a.1.1.1.1.1.0; note = b.0 })

-- the parts of a whole file keep the conditions of a chart
pub well_formed : (size : ℕ) (d : ReadRecords) (i : Dsid) (s : Dssi) (p : Dspm) (header : Header) → size ≤ 4000000000 → IsSound size d
    → d.data_set ≡ Some (record { identity = dsid_values i; structure = s }) → d.units ≡ Some (dspm_values p) → header_of (dsid_values i) s (dspm_values p) ≡ Some header → IsWellFormed (parts_of header d)
well_formed size d i s p header limit sound set units h = record {
  header = header_texts i s p header (rw set at sound.identity) (rw units at sound.units) h;
  attributes = All-weaker IsSoundFeature (λ (f : Feature). All (λ (a : Attribute). IsText a.text) f.attributes) (λ f is. is.texts) d.features sound.features;
  soundings = All-weaker IsSoundIsolated (λ n. IsTrue (has_some n)) (λ n is. is.some) d.isolated sound.isolated;
  made = All-weaker IsSoundFeature (λ f. IsTrue (is_made f)) (λ f is. is.made) d.features sound.features;
  few_isolated = omega (arith, sound.few_isolated);
  few_connected = omega (arith, sound.few_connected);
  few_edges = omega (arith, sound.few_edges);
  few_features = omega (arith, sound.few_features);
}

-- and those of the tally
pub measured : (size : ℕ) (d : ReadRecords) (header : Header) → IsSound size d → IsMeasured (parts_of header d)
measured size d header sound = record {
  pointers = All-weaker IsSoundFeature (λ (f : Feature). length f.pointers ≤ 12500) (λ f is. is.few) d.features sound.features;
  soundings = All-weaker IsSoundIsolated (λ n. length (soundings_of n) ≤ 12500) (λ n is. is.few) d.isolated sound.isolated;
  inner = sound.edges;
}

pub within : (size : ℕ) (d : ReadRecords) (header : Header) → IsSound size d → IsWithin size (parts_of header d)
within size d header sound = record { isolated = sound.few_isolated; connected = sound.few_connected; edges = sound.few_edges; features = sound.few_features }

need_counts_same : (s : Dssi) (b c : Parts) → need_counts s b ≡ Ok c → b ≡ c
unfolding need_counts
need_counts_same s b c h =
    let isolated = bind_ok (need_count 1 s.noin (length b.isolated)) _ c h in
    let connected = bind_ok (need_count 2 s.nocn (length b.connected)) _ c isolated.2 in
    let edges = bind_ok (need_count 3 s.noed (length b.edges)) _ c connected.2 in
    let features = bind_ok (need_count 4 (s.nomr + s.nocr + s.nogr + s.nolr) (length b.features)) _ c edges.2 in
    same_ok b c features.2

parts_same : (due : Option PartFault) (b c : Parts) → parts_or_fault due b ≡ Ok c → b ≡ c
parts_same None b c h = same_ok b c h
parts_same (Some f) b c h = cc

-- a chart that is read has the lists of what its records give
pub chart_is : (size : ℕ) (d : ReadRecords) (c : Parts) → IsSound size d → chart_of size d ≡ Ok c → IsMeasured c × IsWithin size c
unfolding chart_of
chart_is size d c sound h =
    let head = bind_ok (ok_or (header_and_counts d.data_set d.units) (fault.Kind size)) _ c h in
    let all = bind_ok (parts_or_fault (first_fault (parts_of head.0.0 d)) (parts_of head.0.0 d)) _ c head.2 in
    let is : parts_of head.0.0 d ≡ c = parts_same _ (parts_of head.0.0 d) all.0 all.1 ∙ need_counts_same head.0.1 all.0 c all.2 in
    (subst IsMeasured is (measured size d head.0.0 sound), subst (IsWithin size) is (within size d head.0.0 sound))

-- what an answer says of its chart
pub answer_is : (size : ℕ) (d : ReadRecords) (r : Result Parts CellFault) → IsSound size d → Gives (λ c. c) r (chart_of size d) → IfOk r IsMeasured × IfOk r (IsWithin size)
answer_is size d (Ok c) sound h = chart_is size d c sound h
answer_is size d (Err e) sound h = (tt, tt)

-- what the records of a whole file give
pub file_sound : RecordLaws → (bytes : List ℕ) (at : ℕ) (rest : List ℕ) (d : ReadRecords) → first_record bytes ≡ Ok (at, rest) → contents_after nothing (answers at rest) ≡ Ok d → IsSound (length bytes) d
file_sound laws bytes at rest d first h =
    let all = all_sound laws (length rest) 0 at rest nothing d nothing_sound h in
    more (0 + length rest) d all (length bytes) (omega (arith, first_short bytes (at, rest) first))
