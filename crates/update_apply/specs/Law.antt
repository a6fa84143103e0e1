-- What an update leaves as it is.
use Rattle.std.specs.Prelude.{◌≡◌, ◌≢◌, AllPairs, ℕ, Bool, ◌&&◌, not, eqb, filter, List, Ok}
use Rattle.std.specs.List.{list_any}
use Rattle.chart_model.specs.Numbers.{isolated_numbers, connected_numbers, edge_numbers, feature_numbers}
use Rattle.s57_codes.specs.Catalogue.{rcnm_connected_node, rcnm_edge, rcnm_feature, rcnm_isolated_node}
use Rattle.chart_model.specs.declared.records.Parts.{Parts}
use Rattle.update_apply.specs.Applied.{apply_of}
use Rattle.update_reader.specs.declared.change.Deed.{Deed}
use Rattle.update_reader.specs.declared.change.Change.{Change}
use Rattle.update_reader.specs.declared.change.Update.{Update}
use Rattle.update_reader.specs.declared.change.Deed.TheVariants.{Insert, Delete, Modify}
use Rattle.update_reader.specs.declared.change.Change.TheVariants.{OfIsolated, OfConnected, OfEdges, OfFeatures}
use Rattle.update_apply.specs.Making.{Keyed, isolated, connected, edges, features, parts_after}
use Rattle.update_reader.specs.Reading.{update_reading}

-- the number that a deed names
abbrev pub deed_number : {X : Type 0} → Keyed X → Deed X → ℕ
deed_number k (Insert x) = k.number x
deed_number k (Delete n rver) = n
deed_number k (Modify n rver e) = n

-- whether a change names the record with this RCNM and number
abbrev pub is_of : Change → ℕ → ℕ → Bool
is_of (OfIsolated d) rcnm n = eqb rcnm rcnm_isolated_node && eqb n (deed_number isolated d)
is_of (OfConnected d) rcnm n = eqb rcnm rcnm_connected_node && eqb n (deed_number connected d)
is_of (OfEdges d) rcnm n = eqb rcnm rcnm_edge && eqb n (deed_number edges d)
is_of (OfFeatures d) rcnm n = eqb rcnm rcnm_feature && eqb n (deed_number features d)

abbrev pub is_named : List Change → ℕ → ℕ → Bool
is_named changes rcnm n = list_any (λ c. is_of c rcnm n) changes

-- the records of a list that no change names
abbrev pub others_of : {X : Type 0} → List Change → Keyed X → List X → List X
others_of changes k xs = filter (λ x. not (is_named changes k.rcnm (k.number x))) xs

-- both charts have the same records that no change names, in the same order
pub record KeepsOthers (changes : List Change) (old new : Parts) : Type 0 where
  pub isolated : others_of changes isolated old.isolated ≡ others_of changes isolated new.isolated
  pub connected : others_of changes connected old.connected ≡ others_of changes connected new.connected
  pub edges : others_of changes edges old.edges ≡ others_of changes edges new.edges
  pub features : others_of changes features old.features ≡ others_of changes features new.features

-- Records that no change of an update names stay as they are and in their order.
abbrev pub LeavesOthers : Type 0
LeavesOthers = (old new : Parts) (bytes : List ℕ) (u : Update) → update_reading bytes ≡ Ok u → apply_of old bytes ≡ Ok new → KeepsOthers u.changes old new

-- no number stands twice in a list of the parts
pub record HasOnce (c : Parts) : Type 0 where
  pub isolated : AllPairs ◌≢◌ (isolated_numbers c)
  pub connected : AllPairs ◌≢◌ (connected_numbers c)
  pub edges : AllPairs ◌≢◌ (edge_numbers c)
  pub features : AllPairs ◌≢◌ (feature_numbers c)

-- Changes keep this, so that a chart after an update has no number twice.
abbrev pub KeepsOnce : Type 0
KeepsOnce = (changes : List Change) (old new : Parts) → HasOnce old → parts_after changes old ≡ Ok new → HasOnce new
