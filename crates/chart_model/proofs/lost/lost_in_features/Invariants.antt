use Rattle.std.proofs.Common.{◌≡◌, None, take}
use Rattle.std.specs.List.{flat_map}
use Rattle.chart_model.specs.References.{lost_of, feature_names}
use Rattle.chart_model.proofs.lost.lost_in_features.Given as goal

abbrev pub invariant-loop-feature : goal.invariant-loop-feature
invariant-loop-feature l = lost_of l.parts (flat_map feature_names (take l.feature-index l.features)) ≡ None
