use Rattle.std.proofs.Common.{◌≡◌, take, fold}
use Rattle.chart_picture.specs.Frames.{by_sounding}
use Rattle.chart_picture.proofs.framing.widen_by_soundings.Given as goal

abbrev pub invariant-loop-sounding : goal.invariant-loop-sounding
invariant-loop-sounding l = l.b ≡ fold by_sounding l.initial.b (take l.sounding-index l.soundings)
