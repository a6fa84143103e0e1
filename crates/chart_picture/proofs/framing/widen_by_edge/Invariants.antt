use Rattle.std.proofs.Common.{◌≡◌, take, fold}
use Rattle.chart_picture.specs.Frames.{widened}
use Rattle.chart_picture.proofs.framing.widen_by_edge.Given as goal

abbrev pub invariant-loop-p : goal.invariant-loop-p
invariant-loop-p l = l.b ≡ fold widened l.initial.b (take l.p-index l.edge.inner)
