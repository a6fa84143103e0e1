use Rattle.std.proofs.Common.{pos, arith}
use Rattle.chart_model.proofs.Joining.{joined_push}
use Rattle.plane_geom.specs.declared.Point.{Point}
use Rattle.chart_model.proofs.lines.append_joined.Goals as goal

pub loop-at-preserved : goal.loop-at-preserved
loop-at-preserved c =
    let origin : Point = record { x = pos 0; y = pos 0 } in
    joined_push c.args.segments.now.items c.loop-at.segments.items _ c.args.points.now c.loop-at.at origin origin c.in_ok-push.ensures.items c.loop-at.invariant (omega (arith, c.loop-at.auto.at)) c.loop-at-test.true
