use Rattle.std.proofs.Common.{◌≡◌, refl, length, subst, arith}
use Rattle.chart_model.proofs.Indexing.{first_none, first_more_pushed}
use Rattle.chart_model.specs.Index.{AreFirst}
use Rattle.chart_model.proofs.index.listed.Goals as goal

pub loop-place-init : goal.loop-place-init
loop-place-init c = first_none _ _ c.in_ok-entries.ensures.items

pub loop-place-preserved : goal.loop-place-preserved
loop-place-preserved c = first_more_pushed _ _ _ _ _ c.in_ok-push.ensures.items c.loop-place.invariant refl

pub returns : goal.returns
returns c = let e : c.loop-place.place ≡ length c.args.numbers.now = omega arith in subst (λ n. AreFirst c.args.numbers.now n c.loop-place.entries.items) e c.loop-place.invariant
