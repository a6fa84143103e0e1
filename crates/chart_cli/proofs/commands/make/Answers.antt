use Rattle.std.proofs.Common.{refl}
use Rattle.chart_cli.proofs.Overviews.{has_factor, overview_stays}
use Rattle.chart_cli.proofs.Runs.{run_that_stores}
use Rattle.chart_cli.proofs.commands.make.Goals as goal
use Rattle.chart_cli.specs.Views.{origin_view}
use Rattle.chart_cli.specs.Words.{make}

pub returns : goal.returns
returns g c =
    run_that_stores (make (origin_view c.args.origin)) _ _ _ _ _ _ _ _ _ _ _ _ _ refl (overview_stays c.coarse_grids.ensures.computed c.overviews_stay_shoal.ensures (origin_view c.args.origin) (has_factor c.args.origin) _ _ _ _ _ _)
    c.cell_answer-answer.ensures.finds c.cell_answer-answer.ensures.device c.cell_answer-answer.ensures.kept c.cell_answer-answer.ensures.later
    c.finish.ensures.ends c.finish.ensures.usage c.finish.ensures.device c.finish.ensures.contents c.finish.ensures.later
