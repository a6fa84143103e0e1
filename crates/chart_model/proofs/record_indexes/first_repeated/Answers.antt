use Rattle.chart_model.proofs.Finding.{repeat_stops, repeat_goes}
use Rattle.chart_model.proofs.record_indexes.first_repeated.Goals as goal

pub returns-then-first-place : goal.returns-then-first-place
returns-then-first-place c = repeat_stops c.args.numbers.now c.loop-place.place _ c.loop-place-test.true (c.first.ensures c.args.numbers.now c.requires) c.if-first-place.true c.loop-place.invariant

pub loop-place-preserved : goal.loop-place-preserved
loop-place-preserved c = repeat_goes c.args.numbers.now c.loop-place.place _ c.loop-place-test.true (c.first.ensures c.args.numbers.now c.requires) c.if-first-place.false c.loop-place.invariant
