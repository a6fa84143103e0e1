use Rattle.std.proofs.Common.{refl}
use Rattle.chart_cli.proofs.Runs.{run_that_stores}
use Rattle.chart_cli.proofs.commands.revise.Goals as goal
use Rattle.chart_cli.specs.Views.{revision_view}
use Rattle.chart_cli.specs.Words.{revise}

pub returns : goal.returns
returns g c =
    run_that_stores (revise (revision_view c.args.names)) _ _ _ _ _ _ _ _ _ _ _ _ _ refl (λ _. tt)
    c.revised_cell_answer-answer.ensures.finds c.revised_cell_answer-answer.ensures.device c.revised_cell_answer-answer.ensures.kept c.revised_cell_answer-answer.ensures.later
    c.finish.ensures.ends c.finish.ensures.usage c.finish.ensures.device c.finish.ensures.contents c.finish.ensures.later
