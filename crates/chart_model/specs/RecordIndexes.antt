-- The indexes of a chart's nodes and edges.
use Rattle.chart_model.specs.Index.{IsIndex}
use Rattle.chart_model.specs.Numbers.{isolated_numbers, connected_numbers, edge_numbers}
use Rattle.chart_model.specs.declared.record_indexes.RecordIndexes.{RecordIndexes}
use Rattle.chart_model.specs.declared.records.Parts.{Parts}

pub record AreRecordIndexes (c : Parts) (b : RecordIndexes) : Type 0 where
  pub isolated : IsIndex (isolated_numbers c) b.isolated.items
  pub connected : IsIndex (connected_numbers c) b.connected.items
  pub edges : IsIndex (edge_numbers c) b.edges.items
