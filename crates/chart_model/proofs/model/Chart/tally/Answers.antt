use Rattle.std.proofs.Common.{rules}
use Rattle.chart_model.proofs.Counting.{counted}
use Rattle.chart_model.proofs.model.Chart.tally.Goals as goal

pub returns-clause-plain : goal.returns-clause-plain
returns-clause-plain c = counted c.args.self.now _ (search rules)
