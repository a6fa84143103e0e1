-- A chart that is written is read again.
use Rattle.std.proofs.Common.{◌≡◌, ℕ, ◌+◌, List, ◌++◌, length, None, Ok, refl, ap, ◌∙◌}
use Rattle.std.specs.Prelude.{IsTrue}
use Rattle.std.specs.List.{flat_map, AllByRecursion}
use Rattle.std.proofs.lemmas.Bool.{eq-eqb}
use Rattle.chart_model.specs.Law.{WholeLaws}
use Rattle.chart_model.specs.Whole.{IsWhole, first_fault}
use Rattle.chart_model.specs.declared.records.Parts.{Parts}
use Rattle.iso8211_codec.specs.First.{first}
use Rattle.iso8211_codec.specs.Law.{RecordLaws}
use Rattle.iso8211_codec.specs.Layout.{MakeRecord, record_of}
use Rattle.iso8211_codec.specs.Reading.{Part, first_record}
use Rattle.s57_records.specs.Law.{FieldLaws}
use Rattle.s57_records.specs.declared.dssi.Dssi.{Dssi}
use Rattle.cell_reader.specs.Reading.{need_counts, chart_of, parts_or_fault, reading, StandsFor}
use Rattle.readings.specs.Readings.{◌>>=◌}
use Rattle.cell_reader.specs.Records.{ReadRecords, nothing}
use Rattle.cell_writer.specs.Layout.{records, layout, fits_of}
use Rattle.cell_writer.specs.Sized.{IsSized}
use Rattle.cell_laws.proofs.Counts.{all_objects}
use Rattle.cell_laws.proofs.Contents.{Becomes}
use Rattle.cell_laws.proofs.Headers.{structure_for}
use Rattle.cell_laws.proofs.Lists.{contents_of, all_become}
use Rattle.cell_laws.proofs.Shapes.{make_records}

-- ---- when all records were read

-- each number that is stated is the one that is found
counts_agree : (s : Dssi) (c : Parts) → s.noin ≡ length c.isolated → s.nocn ≡ length c.connected → s.noed ≡ length c.edges → s.nomr + s.nocr + s.nogr + s.nolr ≡ length c.features → need_counts s c ≡ Ok c
unfolding need_counts
counts_agree s c i k e f = rw (eq-eqb _ _ i, eq-eqb _ _ k, eq-eqb _ _ e, eq-eqb _ _ f) refl

-- the contents of a chart at which nothing is due are that chart: both records of its header give the header back
finishes : (size : ℕ) (c : Parts) → first_fault c ≡ None → chart_of size (contents_of c) ≡ Ok c
unfolding chart_of
finishes size c none = ap (λ due. parts_or_fault due c >>= need_counts (structure_for c)) none ∙ counts_agree (structure_for c) c refl refl refl (all_objects c.features)

-- ---- the whole file

-- records that can be read, and become contents, after the first record
read_by : (laws : RecordLaws) (bytes : List ℕ) (rs : List (List Part)) (d : ReadRecords) (c : Parts) → first_record bytes ≡ Ok (1352, flat_map record_of rs) → AllByRecursion MakeRecord rs → Becomes nothing rs d → ((size : ℕ) → chart_of size d ≡ Ok c) → reading bytes ≡ Ok c
unfolding reading
read_by laws bytes rs d c begin make becomes finish = rw (begin, laws.walks_back 1352 rs make, becomes 1352) (finish (length bytes))

-- the cell that a chart is written as stands for it
pub reads_again : RecordLaws → FieldLaws → WholeLaws → (c : Parts) → IsWhole c → IsSized c → IsTrue (fits_of c) → StandsFor (layout c) c
unfolding layout fits_of
reads_again records_laws fields whole c is_whole sized fits =
    read_by records_laws (first ++ flat_map record_of (records c)) (records c) (contents_of c) c (records_laws.begins (flat_map record_of (records c))) (make_records c fits) (all_become fields c is_whole.well_formed sized) (λ size. finishes size c (whole.none_due c is_whole))
