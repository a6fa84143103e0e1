use Rattle.std.proofs.Common.{◌||◌, ◌∙◌, sym, ap, ap₂, arith}
use Rattle.std.proofs.lemmas.List.{take_all}
use Rattle.std.proofs.lemmas.List.Folds.{list_any_at, list_any_more}
use Rattle.std.specs.List.{list_any}
use Rattle.chart_query.proofs.Answering.{tests_on}
use Rattle.chart_query.proofs.Toggling.{no_side}
use Rattle.chart_query.specs.Answer.{is_on}
use Rattle.chart_query.proofs.single.is_on_any.Goals as goal

pub returns-then-on_segment : goal.returns-then-on_segment
returns-then-on_segment c = sym (list_any_at (is_on c.args.p) c.args.segments.now c.loop-segment.segment-index no_side.segment c.loop-segment-test.true (sym (tests_on _ c.args.p _ c.on_segment.ensures) ∙ c.if-on_segment.true))

pub loop-segment-preserved : goal.loop-segment-preserved
loop-segment-preserved c = list_any_more (is_on c.args.p) c.args.segments.now c.loop-segment.segment-index no_side.segment c.loop-segment-test.true ∙ ap₂ (λ a b. a || b) c.loop-segment.invariant (sym (tests_on _ c.args.p _ c.on_segment.ensures) ∙ c.if-on_segment.false)

pub returns : goal.returns
returns c = sym (ap (list_any (is_on c.args.p)) (sym (take_all c.loop-segment.segment-index c.args.segments.now (omega arith))) ∙ c.loop-segment.invariant)
