use Rattle.std.proofs.Common.{◌≡◌, false, take}
use Rattle.std.specs.List.{list_any}
use Rattle.chart_query.specs.Answer.{is_on}
use Rattle.chart_query.proofs.single.is_on_any.Given as goal

abbrev pub invariant-loop-segment : goal.invariant-loop-segment
invariant-loop-segment l = list_any (is_on l.p) (take l.segment-index l.segments) ≡ false
