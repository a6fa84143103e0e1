use Rattle.std.proofs.Common.{◌+◌, ◌++◌, List, length, get_or, ap, sym, ◌∙◌, arith}
use Rattle.chart_model.specs.Areas.{is_area}
use Rattle.chart_model.specs.Lines.{area_segments}
use Rattle.chart_model.specs.declared.records.Feature.{Feature}
use Rattle.chart_model.specs.declared.records.Parts.{Parts}
use Rattle.cell_check.specs.Tags.{tagged}
use Rattle.cell_check.proofs.Collecting.{passed, one_count, one_lines}
use Rattle.cell_check.proofs.survey.append_areas.Goals as goal
use Rattle.cell_check.proofs.survey.append_areas.Goals.{then-is_area+in_ok-segments+in_ok-append_owned, else-is_area}

pub loop-place-preserved : goal.loop-place-preserved
loop-place-preserved c = elim c.if-is_area.branch [
  | then-is_area+in_ok-segments+in_ok-append_owned w ↦
      let yes = sym c.is_area.ensures ∙ w.if-is_area.true in
      let features = c.as_slice-features.ensures ∙ ap (λ (t : Parts). t.features) c.parts.ensures.same in
      let segs = w.in_ok-segments.ensures c.index-features-place.result ∙ ap (λ (t : List Feature). area_segments c.args.chart.now (get_or t c.loop-place.place c.index-features-place.result)) (sym features) ∙ ap (area_segments c.args.chart.now) (sym c.index-features-place.is) in
      record {
        count = w.owner-is ∙ one_count c.args.chart.now is_area 0 c.as_slice-features.result.now c.loop-place.place c.index-features-place.result c.index-features-place.is c.loop-place-test.true c.loop-place.owner yes c.loop-place.invariant.count;
        few = let e = w.owner-is in omega (arith, c.loop-place.invariant.few);
        lines = ap (λ v. v.items) w.lines-is ∙ one_lines c.args.chart.now is_area 0 c.as_slice-features.result.now c.loop-place.place c.index-features-place.result c.index-features-place.is c.loop-place-test.true c.loop-place.owner c.args.lines.now.items c.loop-place.lines.items w.append_owned.new.lines.items w.deref.result.now yes c.loop-place.invariant.count c.loop-place.invariant.lines (w.deref.ensures.value ∙ segs) w.in_ok-append_owned.ensures;
      }
  | else-is_area w ↦
      let no = sym c.is_area.ensures ∙ w.if-is_area.false in
      let same = sym (passed c.args.chart.now is_area 0 c.as_slice-features.result.now c.loop-place.place c.index-features-place.result c.index-features-place.is c.loop-place-test.true no) in
      record {
        count = w.owner-is ∙ c.loop-place.invariant.count ∙ ap (λ t. 0 + length t) same;
        few = let e = w.owner-is in omega (arith, c.loop-place.invariant.few);
        lines = ap (λ v. v.items) w.lines-is ∙ c.loop-place.invariant.lines ∙ ap (λ t. c.args.lines.now.items ++ tagged 0 t) same;
      }
]
