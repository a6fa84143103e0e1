use Rattle.std.proofs.Common.{◌≡◌, ◌∙◌, true, false, get_or, refl, sym, ap, subst, arith}
use Rattle.std.proofs.lemmas.List.{append-nil, take_all}
use Rattle.std.specs.List.{filter, flat_map, list_any}
use Rattle.chart_model.specs.Areas.{is_area}
use Rattle.chart_model.specs.Lines.{area_segments}
use Rattle.chart_model.specs.declared.records.Feature.{Feature}
use Rattle.chart_model.specs.declared.records.Parts.{Parts}
use Rattle.chart_query.proofs.Answering.{off_edge, on_edge, placed}
use Rattle.chart_query.proofs.Collecting.{HaveInside, not_one, on_one, one_looked_at}
use Rattle.chart_query.specs.Answer.{is_on}
use Rattle.chart_query.specs.declared.answer.Place.TheVariants.{Edge}
use Rattle.plane_geom.specs.Geom.{odd_of}
use Rattle.chart_query.proofs.single.place_at.Goals as goal
use Rattle.chart_query.proofs.single.place_at.Goals.{then-inside_odd+in_ok-push, else-inside_odd}

pub loop-place-preserved-then-not-is_area : goal.loop-place-preserved-then-not-is_area
loop-place-preserved-then-not-is_area c = not_one c.args.chart.now c.args.p _ c.loop-place.place _ _ c.loop-place-test.true c.index-features-place.is c.loop-place.invariant (sym c.is_area.ensures ∙ c.if-not-is_area.true)

pub loop-place-preserved : goal.loop-place-preserved
loop-place-preserved c =
    let same = c.as_slice-features.ensures ∙ ap (λ (t : Parts). t.features) c.parts.ensures.same in
    let area = sym c.is_area.ensures ∙ c.if-not-is_area.false in
    let off : list_any (is_on c.args.p) c.in_ok-segments.segments.items ≡ false = ap (list_any (is_on c.args.p)) (sym c.deref.ensures.value) ∙ sym c.is_on_any.ensures ∙ c.if-is_on_any.false in
    let odd = c.inside_odd.ensures ∙ ap (λ t. odd_of t c.args.p) c.deref-in-loop-place.ensures.value in
    elim c.if-inside_odd.branch [
      | then-inside_odd+in_ok-push w ↦ one_looked_at c.args.chart.now c.args.p _ c.loop-place.place _ _ c.loop-place-test.true c.index-features-place.is c.loop-place.invariant
          _ true _ same area c.in_ok-segments.ensures off (sym w.if-inside_odd.true ∙ odd) (ap (λ v. v.items) w.found-is ∙ w.in_ok-push.ensures.items)
      | else-inside_odd w ↦ one_looked_at c.args.chart.now c.args.p _ c.loop-place.place _ _ c.loop-place-test.true c.index-features-place.is c.loop-place.invariant
          _ false _ same area c.in_ok-segments.ensures off (sym w.if-inside_odd.false ∙ odd) (ap (λ v. v.items) w.found-is ∙ sym (append-nil _))
    ]

pub returns-then-is_on_any-clause-computed : goal.returns-then-is_on_any-clause-computed
returns-then-is_on_any-clause-computed c =
    let same = c.as_slice-features.ensures ∙ ap (λ (t : Parts). t.features) c.parts.ensures.same in
    let x : Feature = c.index-features-place.result in
    let area = ap is_area (sym c.index-features-place.is) ∙ sym c.is_area.ensures ∙ c.if-not-is_area.false in
    let on = ap (list_any (is_on c.args.p)) (ap (λ t. area_segments c.args.chart.now (get_or t c.loop-place.place x)) same ∙ sym (c.in_ok-segments.ensures x) ∙ sym c.deref.ensures.value) ∙ sym c.is_on_any.ensures ∙ c.if-is_on_any.true in
    on_edge c.args.chart.now c.args.p Edge (ap (λ t. list_any (is_on c.args.p) (flat_map (area_segments c.args.chart.now) (filter is_area t))) (sym same) ∙ on_one c.args.chart.now c.args.p _ c.loop-place.place x c.loop-place-test.true area on) refl

pub returns-then-is_on_any-clause-place : goal.returns-then-is_on_any-clause-place
returns-then-is_on_any-clause-place c = placed c.args.chart.now c.args.p Edge (returns-then-is_on_any-clause-computed c)

pub returns-clause-computed : goal.returns-clause-computed
returns-clause-computed c =
    let same = c.as_slice-features.ensures ∙ ap (λ (t : Parts). t.features) c.parts.ensures.same in
    let all : HaveInside c.args.chart.now c.args.p c.args.chart.now.features c.loop-place.found.items = subst (λ t. HaveInside c.args.chart.now c.args.p t c.loop-place.found.items) (take_all c.loop-place.place c.as_slice-features.result.now (omega arith) ∙ same) c.loop-place.invariant in
    off_edge c.args.chart.now c.args.p c.off_edges.result c.loop-place.found.items all.off c.off_edges.ensures all.inside

pub returns-clause-place : goal.returns-clause-place
returns-clause-place c = placed c.args.chart.now c.args.p c.off_edges.result (returns-clause-computed c)
