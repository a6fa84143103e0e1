use Rattle.std.proofs.Common.{◌∙◌, ap}
use Rattle.chart_cli.proofs.line_answers.verdict_answer.Goals as goal

pub returns-clause-finds : goal.returns-clause-finds
returns-clause-finds c = (c.in_ok-verdict.verdict, c.in_ok-verdict.ensures, ap (λ v. v.items) c.into_bytes.ensures.value ∙ c.in_ok-line.ensures)
