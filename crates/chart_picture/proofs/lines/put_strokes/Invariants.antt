use Rattle.std.proofs.Common.{◌≡◌, ◌++◌, drop, None}
use Rattle.chart_picture.specs.Lines.{strokes}
use Rattle.chart_picture.proofs.lines.put_strokes.Given as goal

abbrev pub invariant-loop-s : goal.invariant-loop-s
invariant-loop-s l = l.out.items ++ strokes l.f l.last (drop l.s-index l.segments) ≡ l.initial.out.items ++ strokes l.f None l.segments
