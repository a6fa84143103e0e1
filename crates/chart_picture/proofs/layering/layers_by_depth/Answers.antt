use Rattle.std.proofs.Common.{subst, sym, rules}
use Rattle.std.proofs.lemmas.Fn.{always_returns_same}
use Rattle.chart_model.specs.Areas.{areas}
use Rattle.chart_picture.specs.Layers.{AreLayers, deepest_first}
use Rattle.chart_picture.proofs.Ordered.{sort_is}
use Rattle.chart_picture.proofs.Painting.{number_of_layer, order_layers}
use Rattle.chart_picture.proofs.layering.layers_by_depth.Goals as goal

pub returns : goal.returns
returns c =
    let numbers = always_returns_same _ _ _ (λ a r f' k. search rules) in
    subst (λ ls. AreLayers c.args.chart.now.features ls (deepest_first (areas c.args.chart.now)))
    (sym (sort_is number_of_layer _ _ (c.in_ok-sort_by_key.ensures.sorted number_of_layer numbers) (c.in_ok-sort_by_key.ensures.stable number_of_layer numbers)))
    (order_layers c.args.chart.now.features _ (areas c.args.chart.now) c.in_ok-layers.ensures)
