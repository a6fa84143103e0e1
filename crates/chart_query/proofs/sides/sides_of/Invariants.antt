use Rattle.std.proofs.Common.{◌≡◌, take}
use Rattle.chart_query.specs.Sides.{sides_from}
use Rattle.chart_query.proofs.sides.sides_of.Given as goal

abbrev pub invariant-loop-place : goal.invariant-loop-place
invariant-loop-place l = l.sides.items ≡ sides_from l.fn.chart 0 (take l.place l.features)
