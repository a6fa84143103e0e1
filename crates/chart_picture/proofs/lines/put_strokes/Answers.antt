use Rattle.std.proofs.Common.{arith}
use Rattle.chart_picture.proofs.Strokes.{all_put, one_more}
use Rattle.chart_picture.proofs.lines.put_strokes.Goals as goal

pub loop-s-preserved : goal.loop-s-preserved
loop-s-preserved c = one_more c.args.f c.loop-s.last c.args.segments.now c.loop-s.s-index _ c.loop-s.out.items _ _ c.loop-s-test.true c.loop-s.invariant c.in_ok-put_stroke.ensures

pub returns : goal.returns
returns c = all_put c.args.f c.loop-s.last c.args.segments.now c.loop-s.s-index _ _ (omega arith) c.loop-s.invariant
