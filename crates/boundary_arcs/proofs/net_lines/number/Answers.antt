use Rattle.boundary_arcs.proofs.Numbering.{numbered}
use Rattle.boundary_arcs.proofs.net_lines.number.Goals as goal

pub returns : goal.returns
returns c =
    let h = c.in_ok-index.ensures in
    numbered c.args.points.now.keys c.insert_full.new.self.keys c.args.point c.in_ok-index.index h.keys h.stored.0 h.stored.1 h.stored.2 h.unique
