use Rattle.std.proofs.Common.{◌∙◌, ap}
use Rattle.chart_model.proofs.Parity.{turned_marks}
use Rattle.chart_model.specs.Numbers.{connected_numbers}
use Rattle.chart_model.specs.Marks.{turned_at}
use Rattle.chart_model.proofs.closed.mark_end.Goals as goal

pub returns-clause-marked : goal.returns-clause-marked
returns-clause-marked c = λ before was. c.turn_mark.ensures.turned ∙ ap (λ o. turned_at o c.first.result) was ∙ turned_marks (connected_numbers c.args.parts.now) before c.args.number _ c.requires.once (c.first.ensures (connected_numbers c.args.parts.now) (rw c.deref.ensures.value c.requires.indexes.connected))
