use Rattle.std.proofs.Common.{◌≡◌, false, take}
use Rattle.std.specs.List.{list_any}
use Rattle.chart_query.specs.Sides.{is_on_side}
use Rattle.chart_query.proofs.sides.is_on_some.Given as goal

abbrev pub invariant-loop-side : goal.invariant-loop-side
invariant-loop-side l = list_any (is_on_side l.p) (take l.side-index l.sides) ≡ false
