use Rattle.std.proofs.Common.{◌≡◌, take, fold}
use Rattle.chart_picture.specs.Frames.{by_isolated}
use Rattle.chart_picture.proofs.framing.widen_by_all_isolated.Given as goal

abbrev pub invariant-loop-node : goal.invariant-loop-node
invariant-loop-node l = l.b ≡ fold by_isolated l.initial.b (take l.node-index l.nodes)
