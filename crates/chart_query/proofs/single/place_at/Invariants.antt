use Rattle.std.proofs.Common.{take}
use Rattle.chart_query.proofs.Collecting.{HaveInside}
use Rattle.chart_query.proofs.single.place_at.Given as goal

abbrev pub invariant-loop-place : goal.invariant-loop-place
invariant-loop-place l = HaveInside l.fn.chart l.p (take l.place l.features) l.found.items
