use Rattle.std.proofs.Common.{not}
use Rattle.chart_model.proofs.Finding.{find_goes, find_stops}
use Rattle.chart_model.specs.References.{stands, feature_names}
use Rattle.chart_model.specs.declared.lost.Name.{Name}
use Rattle.chart_model.proofs.lost.lost_in_features.Goals as goal

pub returns-in-Some : goal.returns-in-Some
returns-in-Some c = find_stops (λ (n : Name). not (stands c.args.parts.now n)) feature_names c.args.parts.now.features c.as_slice-features.result.now c.loop-feature.feature-index _ _ _ c.as_slice-features.ensures c.loop-feature-test.true c.feature-item.is c.loop-feature.invariant c.lost_of_feature.ensures _ c.in-Some.is

pub loop-feature-preserved : goal.loop-feature-preserved
loop-feature-preserved c = find_goes (λ (n : Name). not (stands c.args.parts.now n)) feature_names c.args.parts.now.features c.as_slice-features.result.now c.loop-feature.feature-index _ _ _ c.as_slice-features.ensures c.loop-feature-test.true c.feature-item.is c.loop-feature.invariant c.lost_of_feature.ensures c.in_default.is
