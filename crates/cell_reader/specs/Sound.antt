-- What holds of the parts that records give, so that they may be a chart.
use Rattle.std.specs.Prelude.{ℕ, ◌*◌, ◌≤◌, length, IfSome, All}
use Rattle.chart_model.specs.declared.records.Edge.{Edge}
use Rattle.s57_records.specs.Fields.{dsid, dspm}
use Rattle.cell_reader.specs.Headers.{DataSet}
use Rattle.cell_reader.specs.Records.{ReadRecords}
use Rattle.record_values.specs.Sound.{HasTexts, IsSoundIsolated, IsSoundFeature}

-- parts that records of a file of so many bytes give
pub record IsSound (size : ℕ) (d : ReadRecords) : Type 0 where
  pub identity : IfSome d.data_set (λ (s : DataSet). HasTexts dsid s.identity)
  pub units : IfSome d.units (HasTexts dspm)
  pub isolated : All IsSoundIsolated d.isolated
  pub edges : All (λ (e : Edge). length e.inner ≤ 12500) d.edges
  pub features : All IsSoundFeature d.features
  pub few_isolated : 24 * length d.isolated ≤ size
  pub few_connected : 24 * length d.connected ≤ size
  pub few_edges : 24 * length d.edges ≤ size
  pub few_features : 24 * length d.features ≤ size
