use Rattle.std.proofs.Common.{subst}
use Rattle.chart_model.specs.declared.records.Parts.{Parts}
use Rattle.cell_check.specs.Verdicts.{IsVerdict}
use Rattle.cell_check.proofs.Deciding.{if_ok, exact, tiled}
use Rattle.cell_check.proofs.tiling.check.Goals as goal

pub returns-clause-too_many : goal.returns-clause-too_many
returns-clause-too_many c = if_ok c.decided.result (IsVerdict c.in_ok-survey.survey) _ (λ v h. (exact c.args.chart.now v (subst (λ (t : Parts). IsVerdict t v) c.in_ok-survey.ensures h)).too_many) c.decided.ensures

pub returns-clause-crossed : goal.returns-clause-crossed
returns-clause-crossed c = if_ok c.decided.result (IsVerdict c.in_ok-survey.survey) _ (λ v h. (exact c.args.chart.now v (subst (λ (t : Parts). IsVerdict t v) c.in_ok-survey.ensures h)).crossed) c.decided.ensures

pub returns-clause-wrong : goal.returns-clause-wrong
returns-clause-wrong c = if_ok c.decided.result (IsVerdict c.in_ok-survey.survey) _ (λ v h. (exact c.args.chart.now v (subst (λ (t : Parts). IsVerdict t v) c.in_ok-survey.ensures h)).wrong) c.decided.ensures

pub returns-clause-tiles : goal.returns-clause-tiles
returns-clause-tiles c = if_ok c.decided.result (IsVerdict c.in_ok-survey.survey) _ (λ v h. (exact c.args.chart.now v (subst (λ (t : Parts). IsVerdict t v) c.in_ok-survey.ensures h)).tiles) c.decided.ensures

pub returns-clause-tiled : goal.returns-clause-tiled
returns-clause-tiled c = if_ok c.decided.result (IsVerdict c.in_ok-survey.survey) _ (λ v h a e. tiled c.args.chart.now c.tiled_points.ensures a (subst (IsVerdict c.args.chart.now) e (subst (λ (t : Parts). IsVerdict t v) c.in_ok-survey.ensures h))) c.decided.ensures
