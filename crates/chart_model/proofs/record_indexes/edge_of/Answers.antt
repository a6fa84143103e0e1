use Rattle.std.proofs.Common.{◌∙◌}
use Rattle.chart_model.proofs.Finding.{copied_item, found_by}
use Rattle.chart_model.specs.Numbers.{edge_numbers}
use Rattle.chart_model.specs.declared.records.Edge.{Edge}
use Rattle.chart_model.proofs.record_indexes.edge_of.Goals as goal

pub returns : goal.returns
returns c = copied_item c.args.parts.now.edges _ _ (rw (← c.as_slice.ensures) c.get.ensures.lookup) ∙ found_by (λ (e : Edge). e.rcid) c.args.parts.now.edges c.args.number _ (c.first.ensures (edge_numbers c.args.parts.now) (rw c.deref.ensures.value c.requires.edges))
