-- The data set record and the parameter record that are written give the header and the counts.
use Rattle.std.proofs.Common.{◌≡◌, ℕ, false, cond, List, [], ◌∷◌, length, map, Some, None, Ok, refl, ap, ◌∙◌}
use Rattle.std.specs.Option.{is_some}
use Rattle.chart_model.specs.declared.records.Header.{Header}
use Rattle.chart_model.specs.declared.records.Parts.{Parts}
use Rattle.iso8211_codec.specs.Reading.{seen}
use Rattle.s57_records.specs.Fields.{dsid, dssi, dspm}
use Rattle.readings.specs.Finds.{◌>>=◌}
use Rattle.s57_records.specs.Formats.{Value, field_of, AllFit}
use Rattle.s57_records.specs.Law.{FieldLaws}
use Rattle.s57_records.specs.declared.dssi.Dssi.{Dssi}
use Rattle.s57_codes.specs.Catalogue.{tag_0001, tag_dsid, tag_dspm, tag_dssi}
use Rattle.record_values.specs.DataSets.{is_identity, identity_in}
use Rattle.cell_reader.specs.Headers.{DataSet, structure_of, structure_in, are_units, units_in}
use Rattle.cell_reader.specs.Records.{ReadRecords, data_set, parameters, after_record}
use Rattle.cell_writer.specs.Layout.{id, field, data_set_parts, parameter_parts, dsid_of, dssi_of, dspm_of, objects, geo_objects}
use Rattle.cell_laws.proofs.Seeing.{with_body, id_body, seen_is, led}

-- what DSSI says of a chart
abbrev pub structure_for : Parts → Dssi
structure_for c = record {
  dstr = 2;
  aall = c.header.aall;
  nall = c.header.nall;
  nomr = objects 300 400 c.features;
  nocr = objects 500 600 c.features;
  nogr = geo_objects c.features;
  nolr = objects 400 500 c.features;
  noin = length c.isolated;
  nocn = length c.connected;
  noed = length c.edges;
  nofa = 0;
}

-- what both fields of the data set record say
abbrev pub set_for : Parts → DataSet
set_for c = record { identity = dsid_of c.header; structure = structure_for c }

-- a data set record adds what its fields say, where none came before
set_read : (at : ℕ) (id identity structure : List ℕ) (d : ReadRecords) (values : List Value) (s : Dssi) → is_some d.data_set ≡ false → identity_in identity ≡ Some values → structure_in structure ≡ Some s
    → after_record at (with_body tag_0001 id ∷ with_body tag_dsid identity ∷ with_body tag_dssi structure ∷ []) d ≡ Ok (record d { data_set = Some (record { identity = values; structure = s }) })
unfolding after_record data_set
set_read at id identity structure d values s first i t = rw (first, i, t) refl

-- so does a parameter record
units_read : (at : ℕ) (id units : List ℕ) (d : ReadRecords) (values : List Value) → is_some d.units ≡ false → units_in units ≡ Some values
    → after_record at (with_body tag_0001 id ∷ with_body tag_dspm units ∷ []) d ≡ Ok (record d { units = Some values })
unfolding after_record parameters
units_read at id units d values first u = rw (first, u) refl

-- the data set record that is written
pub set_taken : (laws : FieldLaws) (at n : ℕ) (c : Parts) (d : ReadRecords) → AllFit dsid (dsid_of c.header) → AllFit dssi (dssi_of c) → is_some d.data_set ≡ false
    → after_record at (map seen (data_set_parts n c)) d ≡ Ok (record d { data_set = Some (set_for c) })
set_taken laws at n c d fits fit first =
    let identity = field_of dsid (dsid_of c.header) in
    let structure = field_of dssi (dssi_of c) in
    ap (λ fields. after_record at fields d) (led tag_dsid dsid (dsid_of c.header) n (field tag_dssi dssi (dssi_of c) ∷ []) refl)
    ∙ ap (λ s. after_record at (with_body tag_0001 (id_body n) ∷ with_body tag_dsid identity ∷ s ∷ []) d) (seen_is tag_dssi structure refl)
    ∙ set_read at (id_body n) identity structure d (dsid_of c.header) (structure_for c) first
    (ap (λ o. o >>= λ (values : List Value). cond (is_identity values) (Some values) None) (laws.reads_back dsid (dsid_of c.header) fits)) (ap (λ o. o >>= structure_of) (laws.reads_back dssi (dssi_of c) fit))

-- the parameter record that is written
pub units_taken : (laws : FieldLaws) (at n : ℕ) (h : Header) (d : ReadRecords) → AllFit dspm (dspm_of h) → is_some d.units ≡ false → after_record at (map seen (parameter_parts n h)) d ≡ Ok (record d { units = Some (dspm_of h) })
units_taken laws at n h d fit first =
    let units = field_of dspm (dspm_of h) in
    ap (λ fields. after_record at fields d) (led tag_dspm dspm (dspm_of h) n [] refl)
    ∙ units_read at (id_body n) units d (dspm_of h) first (ap (λ o. o >>= λ (values : List Value). cond (are_units values) (Some values) None) (laws.reads_back dspm (dspm_of h) fit))
