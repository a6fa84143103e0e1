use Rattle.std.proofs.Common.{◌+◌, ◌∙◌, arith}
use Rattle.std.proofs.lemmas.Grind.{common_steps}
use Rattle.chart_dev.proofs.Puts.{put_step}
use Rattle.chart_dev.proofs.writing.put_all.Goals as goal

pub returns-in_default-clause-err : goal.returns-in_default-clause-err
returns-in_default-clause-err g c =
    let part = c.in_default.ensures.err in (
      c.loop-done.done + part.0,
      put_step (g.K.Sink.taken c.args.out.now) (g.K.Sink.taken c.loop-done.out) (g.K.Sink.taken c.put.new.self) c.args.bytes.now _ c.loop-done.done part.0 part.1 c.loop-done.invariant.0 (grind (arith, common_steps)),
    )

pub loop-done-preserved : goal.loop-done-preserved
loop-done-preserved g c = (
  put_step (g.K.Sink.taken c.args.out.now) (g.K.Sink.taken c.loop-done.out) (g.K.Sink.taken c.put.new.self) c.args.bytes.now _ c.loop-done.done c.in-Ok.count c.in-Ok.ensures.ok c.loop-done.invariant.0 (grind (arith, common_steps)),
  grind (arith, common_steps, c.in-Ok.ensures.bound),
  c.in-Ok.ensures.cause.quiet ∙ c.loop-done.invariant.2,
)
