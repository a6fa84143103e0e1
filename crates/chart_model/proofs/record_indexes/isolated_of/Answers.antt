use Rattle.std.proofs.Common.{◌∙◌}
use Rattle.chart_model.proofs.Finding.{copied_item, found_by}
use Rattle.chart_model.specs.Numbers.{isolated_numbers}
use Rattle.chart_model.specs.declared.records.Isolated.{Isolated}
use Rattle.chart_model.proofs.record_indexes.isolated_of.Goals as goal

pub returns : goal.returns
returns c = copied_item c.args.parts.now.isolated _ _ (rw (← c.as_slice.ensures) c.get.ensures.lookup) ∙ found_by (λ (e : Isolated). e.rcid) c.args.parts.now.isolated c.args.number _ (c.first.ensures (isolated_numbers c.args.parts.now) (rw c.deref.ensures.value c.requires.isolated))
