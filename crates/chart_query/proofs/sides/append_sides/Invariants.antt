use Rattle.std.proofs.Common.{◌≡◌, ◌++◌, map, take}
use Rattle.chart_query.specs.Sides.{side_of}
use Rattle.chart_query.proofs.sides.append_sides.Given as goal

abbrev pub invariant-loop-segment : goal.invariant-loop-segment
invariant-loop-segment l = l.sides.items ≡ l.fn.sides.items ++ map (side_of l.feature) (take l.segment-index l.segments)
