use Rattle.chart_cli.proofs.Verdicts.{verdict_found}
use Rattle.chart_cli.proofs.line_answers.verdict_of.Goals as goal

pub returns : goal.returns
returns c = verdict_found c.args.chart.now c.check.result c.check.ensures.too_many c.check.ensures.crossed c.check.ensures.wrong c.check.ensures.tiles
