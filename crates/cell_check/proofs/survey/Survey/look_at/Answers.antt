use Rattle.std.proofs.Common.{◌≡◌, ◌∙◌, ◌++◌, length, subst, ap}
use Rattle.chart_model.specs.declared.records.Parts.{Parts}
use Rattle.cell_check.specs.Gaps.{HasTurned, HasWrongGap, IsInOrderAt, NoWrongGap}
use Rattle.cell_check.specs.Outlines.{area_outlines, cover_outlines}
use Rattle.cell_check.specs.Tags.{tagged}
use Rattle.cell_check.proofs.Shown.{crosses, uncrossed_here, wrong_here, right_here}
use Rattle.cell_check.proofs.survey.Survey.look_at.Goals as goal

pub returns-then-has_turned : goal.returns-then-has_turned
returns-then-has_turned c = crosses c.lines_of_strips.ensures.spans c.lines_of_strips.ensures.on c.lines_of_strips.ensures.cross c.lines_of_strips.ensures.goes_on c.lines_of_strips.ensures.east_goes_on c.lines_of_strips.ensures.equal c.rows_of_lines.ensures.place c.rows_of_lines.ensures.gap c.rows_of_lines.ensures.west c.sweeps_of_strips.ensures.odd c.sweeps_of_strips.ensures.back c.args.self.now c.deref.result.now (c.deref.ensures.value ∙ c.self.invariant.2 ∙ ap (λ (t : Parts). tagged 0 (area_outlines t ++ cover_outlines t)) c.self.view_is) c.args.lo.y c.args.hi.y c.requires c.in_ok-row.row.items c.in_ok-row.ensures (subst (HasTurned c.args.hi.y) c.deref-2.ensures.value (c.has_turned.ensures.turned c.if-has_turned.true))

pub returns-then-has_wrong_gap : goal.returns-then-has_wrong_gap
returns-then-has_wrong_gap c =
    let order : IsInOrderAt c.args.hi.y c.in_ok-row.row.items = subst (IsInOrderAt c.args.hi.y) c.deref-2.ensures.value (c.has_turned.ensures.in_order c.if-has_turned.false) in
    let n : length c.in_ok-inside.inside.areas ≡ length (area_outlines c.args.self.now) = c.in_ok-inside.ensures.areas ∙ c.self.invariant.0 ∙ ap (λ (t : Parts). length (area_outlines t)) c.self.view_is in
    let m : length c.in_ok-inside.inside.covers ≡ length (cover_outlines c.args.self.now) = c.in_ok-inside.ensures.covers ∙ c.self.invariant.1 ∙ ap (λ (t : Parts). length (cover_outlines t)) c.self.view_is in
    let wrong : HasWrongGap (length c.in_ok-inside.inside.areas) (length c.in_ok-inside.inside.covers) c.in_ok-row.row.items = subst (HasWrongGap (length c.in_ok-inside.inside.areas) (length c.in_ok-inside.inside.covers)) c.deref-3.ensures.value (c.has_wrong_gap.ensures.wrong c.if-has_wrong_gap.true) in (
      uncrossed_here c.lines_of_strips.ensures.spans c.lines_of_strips.ensures.on c.lines_of_strips.ensures.cross c.lines_of_strips.ensures.goes_on c.lines_of_strips.ensures.east_goes_on c.lines_of_strips.ensures.equal c.rows_of_lines.ensures.place c.rows_of_lines.ensures.gap c.rows_of_lines.ensures.west c.sweeps_of_strips.ensures.odd c.sweeps_of_strips.ensures.back c.args.self.now c.deref.result.now (c.deref.ensures.value ∙ c.self.invariant.2 ∙ ap (λ (t : Parts). tagged 0 (area_outlines t ++ cover_outlines t)) c.self.view_is) c.args.lo.y c.args.hi.y c.requires c.in_ok-row.row.items c.in_ok-row.ensures order,
      wrong_here c.lines_of_strips.ensures.spans c.lines_of_strips.ensures.on c.lines_of_strips.ensures.cross c.lines_of_strips.ensures.goes_on c.lines_of_strips.ensures.east_goes_on c.lines_of_strips.ensures.equal c.rows_of_lines.ensures.place c.rows_of_lines.ensures.gap c.rows_of_lines.ensures.west c.sweeps_of_strips.ensures.odd c.sweeps_of_strips.ensures.back c.args.self.now c.deref.result.now (c.deref.ensures.value ∙ c.self.invariant.2 ∙ ap (λ (t : Parts). tagged 0 (area_outlines t ++ cover_outlines t)) c.self.view_is) c.args.lo.y c.args.hi.y c.requires c.in_ok-row.row.items c.in_ok-row.ensures order (subst (λ k. HasWrongGap k (length (cover_outlines c.args.self.now)) c.in_ok-row.row.items) n (subst (λ k. HasWrongGap (length c.in_ok-inside.inside.areas) k c.in_ok-row.row.items) m wrong)),
    )

pub returns : goal.returns
returns c =
    let order : IsInOrderAt c.args.hi.y c.in_ok-row.row.items = subst (IsInOrderAt c.args.hi.y) c.deref-2.ensures.value (c.has_turned.ensures.in_order c.if-has_turned.false) in
    let n : length c.in_ok-inside.inside.areas ≡ length (area_outlines c.args.self.now) = c.in_ok-inside.ensures.areas ∙ c.self.invariant.0 ∙ ap (λ (t : Parts). length (area_outlines t)) c.self.view_is in
    let m : length c.in_ok-inside.inside.covers ≡ length (cover_outlines c.args.self.now) = c.in_ok-inside.ensures.covers ∙ c.self.invariant.1 ∙ ap (λ (t : Parts). length (cover_outlines t)) c.self.view_is in
    let right : NoWrongGap (length c.in_ok-inside.inside.areas) (length c.in_ok-inside.inside.covers) c.in_ok-row.row.items = subst (NoWrongGap (length c.in_ok-inside.inside.areas) (length c.in_ok-inside.inside.covers)) c.deref-3.ensures.value (c.has_wrong_gap.ensures.right c.if-has_wrong_gap.false) in (
      uncrossed_here c.lines_of_strips.ensures.spans c.lines_of_strips.ensures.on c.lines_of_strips.ensures.cross c.lines_of_strips.ensures.goes_on c.lines_of_strips.ensures.east_goes_on c.lines_of_strips.ensures.equal c.rows_of_lines.ensures.place c.rows_of_lines.ensures.gap c.rows_of_lines.ensures.west c.sweeps_of_strips.ensures.odd c.sweeps_of_strips.ensures.back c.args.self.now c.deref.result.now (c.deref.ensures.value ∙ c.self.invariant.2 ∙ ap (λ (t : Parts). tagged 0 (area_outlines t ++ cover_outlines t)) c.self.view_is) c.args.lo.y c.args.hi.y c.requires c.in_ok-row.row.items c.in_ok-row.ensures order,
      right_here c.lines_of_strips.ensures.spans c.lines_of_strips.ensures.on c.lines_of_strips.ensures.cross c.lines_of_strips.ensures.goes_on c.lines_of_strips.ensures.east_goes_on c.lines_of_strips.ensures.equal c.rows_of_lines.ensures.place c.rows_of_lines.ensures.gap c.rows_of_lines.ensures.west c.sweeps_of_strips.ensures.odd c.sweeps_of_strips.ensures.back c.args.self.now c.deref.result.now (c.deref.ensures.value ∙ c.self.invariant.2 ∙ ap (λ (t : Parts). tagged 0 (area_outlines t ++ cover_outlines t)) c.self.view_is) c.args.lo.y c.args.hi.y c.requires c.in_ok-row.row.items c.in_ok-row.ensures order (subst (λ k. NoWrongGap k (length (cover_outlines c.args.self.now)) c.in_ok-row.row.items) n (subst (λ k. NoWrongGap (length c.in_ok-inside.inside.areas) k c.in_ok-row.row.items) m right)),
    )
