use Rattle.std.proofs.Common.{◌||◌, ◌∙◌, sym, ap, ap₂, arith}
use Rattle.std.proofs.lemmas.List.{take_all}
use Rattle.std.proofs.lemmas.List.Folds.{list_any_at, list_any_more}
use Rattle.std.specs.List.{list_any}
use Rattle.chart_query.proofs.Answering.{tests_on}
use Rattle.chart_query.proofs.Toggling.{no_side}
use Rattle.chart_query.specs.Sides.{is_on_side}
use Rattle.chart_query.proofs.sides.is_on_some.Goals as goal

pub returns-then-on_segment : goal.returns-then-on_segment
returns-then-on_segment c = sym (list_any_at (is_on_side c.args.p) c.args.sides.now c.loop-side.side-index no_side c.loop-side-test.true (sym (tests_on _ c.args.p _ c.on_segment.ensures) ∙ c.if-on_segment.true))

pub loop-side-preserved : goal.loop-side-preserved
loop-side-preserved c = list_any_more (is_on_side c.args.p) c.args.sides.now c.loop-side.side-index no_side c.loop-side-test.true ∙ ap₂ (λ a b. a || b) c.loop-side.invariant (sym (tests_on _ c.args.p _ c.on_segment.ensures) ∙ c.if-on_segment.false)

pub returns : goal.returns
returns c = sym (ap (list_any (is_on_side c.args.p)) (sym (take_all c.loop-side.side-index c.args.sides.now (omega arith))) ∙ c.loop-side.invariant)
