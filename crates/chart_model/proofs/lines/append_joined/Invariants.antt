use Rattle.std.proofs.Common.{◌≡◌, ◌++◌, take}
use Rattle.plane_geom.specs.Segments.{joins}
use Rattle.chart_model.proofs.lines.append_joined.Given as goal

abbrev pub invariant-loop-at : goal.invariant-loop-at
invariant-loop-at l = l.segments.items ≡ l.fn.segments.items ++ joins (take l.at l.points)
