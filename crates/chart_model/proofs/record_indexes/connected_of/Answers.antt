use Rattle.std.proofs.Common.{◌∙◌}
use Rattle.chart_model.proofs.Finding.{copied_item, found_by}
use Rattle.chart_model.specs.Numbers.{connected_numbers}
use Rattle.chart_model.specs.declared.records.Connected.{Connected}
use Rattle.chart_model.proofs.record_indexes.connected_of.Goals as goal

pub returns : goal.returns
returns c = copied_item c.args.parts.now.connected _ _ (rw (← c.as_slice.ensures) c.get.ensures.lookup) ∙ found_by (λ (e : Connected). e.rcid) c.args.parts.now.connected c.args.number _ (c.first.ensures (connected_numbers c.args.parts.now) (rw c.deref.ensures.value c.requires.connected))
