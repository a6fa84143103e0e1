use Rattle.std.proofs.Common.{◌≡◌, [], None, take}
use Rattle.std.specs.List.{find}
use Rattle.chart_model.specs.Closed.{is_open_area}
use Rattle.chart_model.specs.Marks.{marks}
use Rattle.chart_model.proofs.closed.first_unclosed.Given as goal

abbrev pub invariant-loop-feature : goal.invariant-loop-feature
invariant-loop-feature l = (l.odd ≡ marks l.parts []) × (find (is_open_area l.parts) (take l.feature-index l.features) ≡ None)
