use Rattle.std.proofs.Common.{◌≡◌, take, fold}
use Rattle.chart_picture.specs.Frames.{by_edge}
use Rattle.chart_picture.proofs.framing.widen_by_edges.Given as goal

abbrev pub invariant-loop-edge : goal.invariant-loop-edge
invariant-loop-edge l = l.b ≡ fold by_edge l.initial.b (take l.edge-index l.edges)
