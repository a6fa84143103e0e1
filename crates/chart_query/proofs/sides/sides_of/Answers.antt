use Rattle.std.proofs.Common.{◌∙◌, ◌++◌, map, sym, ap}
use Rattle.chart_model.specs.declared.records.Parts.{Parts}
use Rattle.chart_query.proofs.Collecting.{one_more, passed_over}
use Rattle.chart_query.specs.Sides.{side_of}
use Rattle.chart_query.proofs.sides.sides_of.Goals as goal

pub loop-place-preserved-then-not-is_area : goal.loop-place-preserved-then-not-is_area
loop-place-preserved-then-not-is_area c = passed_over c.args.chart.now _ c.loop-place.place _ _ c.loop-place-test.true c.index-features-place.is (sym c.is_area.ensures ∙ c.if-not-is_area.true) c.loop-place.invariant

pub loop-place-preserved : goal.loop-place-preserved
loop-place-preserved c = one_more c.args.chart.now _ c.loop-place.place _ _ _ _
    (c.as_slice-features.ensures ∙ ap (λ (t : Parts). t.features) c.parts.ensures.same) c.loop-place-test.true c.index-features-place.is (sym c.is_area.ensures ∙ c.if-not-is_area.false) c.loop-place.invariant
    c.in_ok-segments.ensures (c.in_ok-append_sides.ensures ∙ ap (λ t. c.loop-place.sides.items ++ map (side_of c.loop-place.place) t) c.deref.ensures.value)
