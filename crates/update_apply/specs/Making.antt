-- How the changes of an update are made, one after the other, in plain lists of records.
use Rattle.std.specs.Prelude.{ℕ, ◌+◌, not, eqb, cond, filter, find, map, List, [], ◌∷◌, ◌++◌, Option, Result, Ok}
use Rattle.std.specs.Option.{ok_or, is_some}
use Rattle.s57_codes.specs.Catalogue.{rcnm_connected_node, rcnm_edge, rcnm_feature, rcnm_isolated_node}
use Rattle.chart_model.specs.declared.records.Connected.{Connected}
use Rattle.chart_model.specs.declared.records.Edge.{Edge}
use Rattle.chart_model.specs.declared.records.Feature.{Feature}
use Rattle.chart_model.specs.declared.records.Isolated.{Isolated}
use Rattle.chart_model.specs.declared.records.Parts.{Parts}
use Rattle.update_reader.specs.declared.change.Edit.{Edit}
use Rattle.update_reader.specs.declared.change.Deed.{Deed}
use Rattle.update_reader.specs.declared.change.Change.{Change}
use Rattle.update_reader.specs.declared.change.Deed.TheVariants.{Insert, Delete, Modify}
use Rattle.update_reader.specs.declared.change.Change.TheVariants.{OfIsolated, OfConnected, OfEdges, OfFeatures}
use Rattle.record_edits.specs.Edits.{isolated_after, connected_after, edge_after, feature_after}
use Rattle.record_table.specs.Records.{is_numbered}
use Rattle.readings.specs.Readings.{◌>>=◌, need}
use Rattle.update_reader.specs.declared.fault.UpdateFault.{UpdateFault}
use Rattle.update_reader.specs.declared.fault.UpdateFault.TheVariants as fault

-- a kind of records: its RCNM, a record's number and version, and what a modification to a version makes of one
pub record Keyed (X : Type 0) : Type 0 where
  pub rcnm : ℕ
  pub number : X → ℕ
  pub version : X → ℕ
  pub edited : ℕ → Edit → X → Result X UpdateFault

-- the kind with these
abbrev pub keyed : {X : Type 0} → ℕ → (X → ℕ) → (X → ℕ) → (ℕ → Edit → X → Result X UpdateFault) → Keyed X
keyed rcnm number version edited = record { rcnm = rcnm; number = number; version = version; edited = edited }

abbrev pub isolated : Keyed Isolated
isolated = keyed rcnm_isolated_node (λ n. n.rcid) (λ n. n.rver) isolated_after

abbrev pub connected : Keyed Connected
connected = keyed rcnm_connected_node (λ n. n.rcid) (λ n. n.rver) connected_after

abbrev pub edges : Keyed Edge
edges = keyed rcnm_edge (λ e. e.rcid) (λ e. e.rver) edge_after

abbrev pub features : Keyed Feature
features = keyed rcnm_feature (λ f. f.rcid) (λ f. f.rver) feature_after

-- the first record with a number
abbrev pub record_at : {X : Type 0} → Keyed X → ℕ → List X → Option X
record_at k n xs = find (is_numbered k.number n) xs

-- that record, where the version that is to come is the one after its own
abbrev pub record_due : {X : Type 0} → Keyed X → ℕ → ℕ → List X → Result X UpdateFault
record_due k n rver xs = do
  old ← ok_or (record_at k n xs) (fault.Missing k.rcnm n)
  next ← need (eqb rver (k.version old + 1)) (fault.Version k.rcnm n)
  Ok old

-- A list after a deed. An inserted record goes to the end; a deleted one leaves no gap; a modified one keeps its place.
unfoldable pub list_after : {X : Type 0} → Keyed X → Deed X → List X → Result (List X) UpdateFault
list_after k (Insert x) xs = do
  new ← need (not (is_some (record_at k (k.number x) xs))) (fault.There k.rcnm (k.number x))
  first ← need (eqb (k.version x) 1) (fault.Version k.rcnm (k.number x))
  Ok (xs ++ x ∷ [])
list_after k (Delete n rver) xs = do
  old ← record_due k n rver xs
  Ok (filter (λ x. not (is_numbered k.number n x)) xs)
list_after k (Modify n rver e) xs = do
  old ← record_due k n rver xs
  new ← k.edited rver e old
  Ok (map (λ x. cond (is_numbered k.number n x) new x) xs)

-- a chart's parts after a change
abbrev pub parts_after_change : Change → Parts → Result Parts UpdateFault
parts_after_change (OfIsolated d) c = do
  list ← list_after isolated d c.isolated
  Ok (record c { isolated = list })
parts_after_change (OfConnected d) c = do
  list ← list_after connected d c.connected
  Ok (record c { connected = list })
parts_after_change (OfEdges d) c = do
  list ← list_after edges d c.edges
  Ok (record c { edges = list })
parts_after_change (OfFeatures d) c = do
  list ← list_after features d c.features
  Ok (record c { features = list })

-- after all changes, in their order
abbrev pub parts_after : List Change → Parts → Result Parts UpdateFault
parts_after [] c = Ok c
parts_after (change ∷ changes) c = do
  next ← parts_after_change change c
  parts_after changes next
