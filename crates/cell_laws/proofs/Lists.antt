-- The records of a chart become its lists.
use Rattle.std.proofs.Common.{◌≡◌, ℕ, ◌+◌, List, [], ◌∷◌, ◌++◌, length, Some, refl, sym, ap, ◌∙◌, append_assoc, append-nil}
use Rattle.std.specs.Prelude.{IsTrue}
use Rattle.std.proofs.lemmas.List.Elements.{recursion_from_All}
use Rattle.chart_model.specs.Whole.{IsWellFormed, has_some, is_made}
use Rattle.chart_model.specs.declared.records.Feature.{Feature}
use Rattle.chart_model.specs.declared.records.Isolated.{Isolated}
use Rattle.chart_model.specs.declared.records.Parts.{Parts}
use Rattle.iso8211_codec.specs.Walk.{lying}
use Rattle.s57_records.specs.Law.{FieldLaws}
use Rattle.cell_reader.specs.Records.{ReadRecords, nothing, contents_after}
use Rattle.cell_writer.specs.Layout.{numbered, isolated_parts, connected_parts, edge_parts, feature_parts, data_set_parts, parameter_parts, dspm_of, vector_records, feature_records, records}
use Rattle.cell_writer.specs.Sized.{IsSized, IsolatedFits, ConnectedFits, EdgeFits, FeatureFits}
use Rattle.cell_laws.proofs.Contents.{Becomes, by_one, IsListOf, by_all}
use Rattle.cell_laws.proofs.Features.{feature_taken}
use Rattle.cell_laws.proofs.Headers.{set_for, set_taken, units_taken}
use Rattle.cell_laws.proofs.Vectors.{isolated_taken, connected_taken, edge_taken}

-- ---- the four lists of the contents

isolated_list : IsListOf (λ d. d.isolated) (λ d xs. record d { isolated = xs })
isolated_list = record { kept = λ d. refl; put_is = λ d xs. refl; put_again = λ d xs ys. refl }

connected_list : IsListOf (λ d. d.connected) (λ d xs. record d { connected = xs })
connected_list = record { kept = λ d. refl; put_is = λ d xs. refl; put_again = λ d xs ys. refl }

edge_list : IsListOf (λ d. d.edges) (λ d xs. record d { edges = xs })
edge_list = record { kept = λ d. refl; put_is = λ d xs. refl; put_again = λ d xs ys. refl }

feature_list : IsListOf (λ d. d.features) (λ d xs. record d { features = xs })
feature_list = record { kept = λ d. refl; put_is = λ d xs. refl; put_again = λ d xs ys. refl }

-- ---- all records

-- the chart as contents of records
abbrev pub contents_of : Parts → ReadRecords
contents_of c = record { data_set = Some (set_for c); units = Some (dspm_of c.header); isolated = c.isolated; connected = c.connected; edges = c.edges; features = c.features }

-- the contents after the data set record, and after both records of the header
abbrev first : Parts → ReadRecords
first c = record nothing { data_set = Some (set_for c) }

abbrev second : Parts → ReadRecords
second c = record (first c) { units = Some (dspm_of c.header) }

-- four lists, however they are joined
regroup : {X : Type 0} (a b c d : List X) → a ++ (b ++ (c ++ (d ++ []))) ≡ (a ++ (b ++ c)) ++ d
regroup a b c d = simp (append_assoc, append-nil)

-- what each isolated node and each feature has to be
abbrev NodeHolds : Isolated → Type 0
NodeHolds x = IsolatedFits x × IsTrue (has_some x)

abbrev FeatureHolds : Feature → Type 0
FeatureHolds x = FeatureFits x × IsTrue (is_made x)

-- the records after the header's add all four lists
lists_become : (laws : FieldLaws) (c : Parts) → IsWellFormed c → IsSized c → (i k e f : ℕ)
    → Becomes (second c) (numbered isolated_parts i c.isolated ++ (numbered connected_parts k c.connected ++ (numbered edge_parts e c.edges ++ (numbered feature_parts f c.features ++ [])))) (contents_of c)
lists_become laws c whole fit i k e f =
    by_all isolated_parts NodeHolds isolated_list (λ n x d h at. isolated_taken laws at n x d h.0 h.1) i c.isolated (second c) (contents_of c) _ (recursion_from_All NodeHolds c.isolated (λ k x h. (fit.isolated k x h, whole.soundings k x h)))
    (by_all connected_parts ConnectedFits connected_list (λ n x d h at. connected_taken laws at n x d h) k c.connected _ (contents_of c) _ (recursion_from_All ConnectedFits c.connected fit.connected)
    (by_all edge_parts EdgeFits edge_list (λ n x d h at. edge_taken laws at n x d h) e c.edges _ (contents_of c) _ (recursion_from_All EdgeFits c.edges fit.edges)
    (by_all feature_parts FeatureHolds feature_list (λ n x d h at. feature_taken laws at n x d h.0 h.1) f c.features _ (contents_of c) [] (recursion_from_All FeatureHolds c.features (λ k x h. (fit.features k x h, whole.made k x h)))
    (λ at. refl))))

-- all records of a chart become the chart
pub all_become : (laws : FieldLaws) (c : Parts) → IsWellFormed c → IsSized c → Becomes nothing (records c) (contents_of c)
all_become laws c whole fit =
    let k = 3 + length c.isolated in
    let e = 3 + (length c.isolated + length c.connected) in
    let f = 3 + (length c.isolated + (length c.connected + length c.edges)) in
    let same = regroup (numbered isolated_parts 3 c.isolated) (numbered connected_parts k c.connected) (numbered edge_parts e c.edges) (numbered feature_parts f c.features) in
    by_one nothing (first c) (contents_of c) (data_set_parts 1 c) (parameter_parts 2 c.header ∷ (vector_records c ++ feature_records c)) (λ at. set_taken laws at 1 c nothing fit.identity fit.structure refl)
    (by_one (first c) (second c) (contents_of c) (parameter_parts 2 c.header) (vector_records c ++ feature_records c) (λ at. units_taken laws at 2 c.header (first c) fit.units refl)
    (λ at. ap (λ rs. contents_after (second c) (lying at rs)) (sym same) ∙ lists_become laws c whole fit 3 k e f at))
