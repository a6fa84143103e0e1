use Rattle.chart_model.proofs.Counting.{only_tally, tally_is}
use Rattle.chart_model.proofs.law.tally_laws.Goals as goal

pub returns : goal.returns
returns c = record { right = tally_is; only = only_tally }
