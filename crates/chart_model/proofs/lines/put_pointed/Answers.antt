use Rattle.chart_model.proofs.Joining.{backwards}
use Rattle.chart_model.proofs.lines.put_pointed.Goals as goal

pub returns : goal.returns
returns c = backwards c.args.parts.now c.args.pointer c.put_points.new.points.items _ c.in_ok-put_points.ensures c.reverse.ensures.items c.if-pointer-ne-REVERSE.false
