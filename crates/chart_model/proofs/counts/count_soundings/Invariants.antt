use Rattle.std.proofs.Common.{◌≡◌, ◌≤◌, ◌*◌, take}
use Rattle.std.specs.List.{sum_by}
use Rattle.chart_model.specs.Tally.{soundings_in}
use Rattle.chart_model.proofs.counts.count_soundings.Given as goal

abbrev pub invariant-loop-feature : goal.invariant-loop-feature
invariant-loop-feature l = (l.total ≡ sum_by (soundings_in l.parts) (take l.feature-index l.features)) × (l.total ≤ 156250000 * l.feature-index)
