use Rattle.chart_model.proofs.Wholeness.{none_due, whole_from}
use Rattle.chart_model.proofs.law.whole_laws.Goals as goal

pub returns : goal.returns
returns c = record { none_due = none_due; whole_from = whole_from }
