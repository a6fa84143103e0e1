use Rattle.std.proofs.Common.{◌++◌, ap, arith, subst, sym, ◌∙◌}
use Rattle.std.proofs.lemmas.List.{take_all}
use Rattle.std.specs.List.{flat_map}
use Rattle.chart_model.specs.Areas.{areas}
use Rattle.chart_picture.specs.Layers.{AreLayers, deepest_first}
use Rattle.chart_picture.specs.Lines.{area_text}
use Rattle.chart_picture.specs.Picture.{areas_text}
use Rattle.chart_picture.proofs.Painting.{length_layers, painted_more, within}
use Rattle.chart_picture.proofs.drawing.put_areas.Goals as goal

pub put_area_at-requires-clause-place : goal.put_area_at-requires-clause-place
put_area_at-requires-clause-place c =
    within c.args.chart.now.features c.deref-layer-items.result.now (deepest_first (areas c.args.chart.now)) c.loop-layer.layer-index _
    (subst (λ ls. AreLayers c.args.chart.now.features ls (deepest_first (areas c.args.chart.now))) (sym c.deref-layer-items.ensures.value) c.in_ok-layers.ensures)
    c.loop-layer-test.true

pub loop-layer-preserved : goal.loop-layer-preserved
loop-layer-preserved c =
    painted_more c.args.chart.now.features c.deref-layer-items.result.now (deepest_first (areas c.args.chart.now)) c.loop-layer.layer-index _ (area_text c.args.f c.args.chart.now) c.args.out.now.items c.loop-layer.out.items _
    (subst (λ ls. AreLayers c.args.chart.now.features ls (deepest_first (areas c.args.chart.now))) (sym c.deref-layer-items.ensures.value) c.in_ok-layers.ensures)
    c.loop-layer-test.true c.loop-layer.invariant c.in_ok-put_area_at.ensures

pub returns : goal.returns
unfolding areas_text
returns c =
    let same = length_layers c.args.chart.now.features c.deref-layer-items.result.now (deepest_first (areas c.args.chart.now))
    (subst (λ ls. AreLayers c.args.chart.now.features ls (deepest_first (areas c.args.chart.now))) (sym c.deref-layer-items.ensures.value) c.in_ok-layers.ensures) in
    c.loop-layer.invariant ∙ ap (λ its. c.args.out.now.items ++ flat_map (area_text c.args.f c.args.chart.now) its) (take_all c.loop-layer.layer-index (deepest_first (areas c.args.chart.now)) (omega (arith, same, c.loop-layer-test.false)))
