-- What a modified record keeps, and that a chart may have it.
use Rattle.std.specs.Prelude.{◌≡◌, ℕ, IsTrue, Ok}
use Rattle.chart_model.specs.Whole.{has_some, is_made}
use Rattle.chart_model.specs.declared.records.Connected.{Connected}
use Rattle.chart_model.specs.declared.records.Edge.{Edge}
use Rattle.chart_model.specs.declared.records.Feature.{Feature}
use Rattle.chart_model.specs.declared.records.Isolated.{Isolated}
use Rattle.record_edits.specs.Edits.{isolated_after, connected_after, edge_after, feature_after}
use Rattle.record_values.specs.Sound.{AreTexts}
use Rattle.update_reader.specs.declared.change.Edit.{Edit}

pub record IsIsolatedAfter (rver : ℕ) (n m : Isolated) : Type 0 where
  pub number : m.rcid ≡ n.rcid
  pub version : m.rver ≡ rver
  pub some : IsTrue (has_some m)

abbrev pub KeepsIsolated : Type 0
KeepsIsolated = (rver : ℕ) (e : Edit) (n m : Isolated) → isolated_after rver e n ≡ Ok m → IsIsolatedAfter rver n m

pub record IsConnectedAfter (rver : ℕ) (n m : Connected) : Type 0 where
  pub number : m.rcid ≡ n.rcid
  pub version : m.rver ≡ rver

abbrev pub KeepsConnected : Type 0
KeepsConnected = (rver : ℕ) (e : Edit) (n m : Connected) → connected_after rver e n ≡ Ok m → IsConnectedAfter rver n m

pub record IsEdgeAfter (rver : ℕ) (k l : Edge) : Type 0 where
  pub number : l.rcid ≡ k.rcid
  pub version : l.rver ≡ rver
  pub first : l.first ≡ k.first
  pub last : l.last ≡ k.last

abbrev pub KeepsEdge : Type 0
KeepsEdge = (rver : ℕ) (e : Edit) (k l : Edge) → edge_after rver e k ≡ Ok l → IsEdgeAfter rver k l

-- (its attributes are texts where those that it had and those that are given are)
pub record IsFeatureAfter (rver : ℕ) (e : Edit) (f g : Feature) : Type 0 where
  pub number : g.rcid ≡ f.rcid
  pub version : g.rver ≡ rver
  pub made : IsTrue (is_made g)
  pub texts : AreTexts e.attributes → AreTexts f.attributes → AreTexts g.attributes

abbrev pub KeepsFeature : Type 0
KeepsFeature = (rver : ℕ) (e : Edit) (f g : Feature) → feature_after rver e f ≡ Ok g → IsFeatureAfter rver e f g
