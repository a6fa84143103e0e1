use Rattle.boundary_arcs.proofs.Adding.{adds_line}
use Rattle.boundary_arcs.proofs.net_lines.add.Goals as goal

pub returns : goal.returns
returns c =
    let begins = c.in_ok-begin.ensures in
    let ends = c.in_ok-end.ensures in
    let lines = c.in_ok-push.ensures.items in
    adds_line c.args.net.now (record { points = c.number-2.new.points; lines = c.push.new.self }) c.number.new.points.keys c.args.drawn c.in_ok-begin.begin c.in_ok-end.end begins ends lines
