use Rattle.std.proofs.Common.{◌≡◌, ◌≤◌, ◌*◌, take}
use Rattle.std.specs.List.{sum_by}
use Rattle.chart_model.specs.Tally.{soundings_at}
use Rattle.chart_model.proofs.counts.soundings_along.Given as goal

abbrev pub invariant-loop-pointer : goal.invariant-loop-pointer
invariant-loop-pointer l = (l.total ≡ sum_by (soundings_at l.parts) (take l.pointer-index l.pointers)) × (l.total ≤ 12500 * l.pointer-index)
