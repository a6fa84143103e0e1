use Rattle.std.proofs.Common.{◌≡◌, take, fold}
use Rattle.chart_picture.specs.Frames.{by_connected}
use Rattle.chart_picture.proofs.framing.widen_by_nodes.Given as goal

abbrev pub invariant-loop-node : goal.invariant-loop-node
invariant-loop-node l = l.b ≡ fold by_connected l.initial.b (take l.node-index l.nodes)
