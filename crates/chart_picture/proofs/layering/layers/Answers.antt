use Rattle.chart_picture.proofs.Painting.{next_layer}
use Rattle.chart_picture.proofs.layering.layers.Goals as goal

pub loop-place-preserved : goal.loop-place-preserved
loop-place-preserved c = next_layer c.as_slice-features.result.now c.loop-place.place c.index-features-place.result c.loop-place.layers.items _ c.loop-place-test.true c.index-features-place.is c.in_ok-add_layer.ensures c.loop-place.invariant
