use Rattle.std.proofs.Common.{◌∙◌, sym, ap}
use Rattle.std.proofs.lemmas.Bool.{OnFalse_at}
use Rattle.std.specs.Option.{option_map}
use Rattle.chart_model.proofs.Finding.{find_list_goes, find_list_stops}
use Rattle.chart_model.specs.Closed.{is_open_area}
use Rattle.chart_model.specs.declared.records.Feature.{Feature}
use Rattle.chart_model.proofs.closed.first_unclosed.Goals as goal

pub returns-then-is_unclosed : goal.returns-then-is_unclosed
returns-then-is_unclosed c = ap (option_map (λ (f : Feature). f.rcid)) (find_list_stops (is_open_area c.args.parts.now) c.args.parts.now.features c.as_slice-features.result.now c.loop-feature.feature-index c.feature-item.result c.feature-item.result c.as_slice-features.ensures c.loop-feature-test.true c.feature-item.is c.loop-feature.invariant.1 (sym c.is_unclosed.ensures.open ∙ c.if-is_unclosed.true))

pub loop-feature-preserved : goal.loop-feature-preserved
loop-feature-preserved c = (
  OnFalse_at c.if-is_unclosed.false c.is_unclosed.ensures.even,
  find_list_goes (is_open_area c.args.parts.now) c.args.parts.now.features c.as_slice-features.result.now c.loop-feature.feature-index c.feature-item.result c.feature-item.result c.as_slice-features.ensures c.loop-feature-test.true c.feature-item.is c.loop-feature.invariant.1 (sym c.is_unclosed.ensures.open ∙ c.if-is_unclosed.false),
)
