use Rattle.std.proofs.Common.{sym, ◌∙◌}
use Rattle.chart_model.proofs.Pointed.{with_pointers}
use Rattle.chart_model.proofs.records.Feature.is_made.Goals as goal

pub returns-then-not-is_empty : goal.returns-then-not-is_empty
returns-then-not-is_empty c =
    with_pointers c.args.self.now c.as_slice-pointers.result.now c.are_of.result c.as_slice-pointers.ensures c.if-self.false (sym c.is_empty-else-self.ensures ∙ c.if-not-is_empty.true) c.are_of.ensures
