use Rattle.std.proofs.Common.{◌∙◌, ◌++◌, length, ap, subst}
use Rattle.chart_model.specs.declared.records.Parts.{Parts}
use Rattle.cell_check.specs.Outlines.{area_outlines, cover_outlines}
use Rattle.cell_check.specs.Sweeps.{AreSwept}
use Rattle.cell_check.specs.Tags.{tagged}
use Rattle.cell_check.proofs.Deciding.{if_ok}
use Rattle.cell_check.proofs.Walks.{walked}
use Rattle.cell_check.proofs.survey.Survey.is_swept.Goals as goal

pub returns : goal.returns
returns c = if_ok c.are_swept.result _ _
    (λ b swept t. walked c.lines_of_strips.ensures.spans c.lines_of_strips.ensures.on c.lines_of_strips.ensures.cross c.lines_of_strips.ensures.goes_on c.lines_of_strips.ensures.east_goes_on c.lines_of_strips.ensures.equal c.rows_of_lines.ensures.place c.rows_of_lines.ensures.gap c.rows_of_lines.ensures.west c.sweeps_of_strips.ensures.odd c.sweeps_of_strips.ensures.back
    c.args.self.now c.deref.result.now c.in_ok-rising.rising.items (c.deref.ensures.value ∙ c.self.invariant.2 ∙ ap (λ (t : Parts). tagged 0 (area_outlines t ++ cover_outlines t)) c.self.view_is) c.in_ok-rising.ensures
    c.args.heights.now c.requires (record { areas = c.self.inside.areas; covers = c.self.inside.covers })
    (c.self.invariant.0 ∙ ap (λ (t : Parts). length (area_outlines t)) c.self.view_is)
    (c.self.invariant.1 ∙ ap (λ (t : Parts). length (cover_outlines t)) c.self.view_is)
    (subst (λ r. AreSwept (record { areas = c.self.inside.areas; covers = c.self.inside.covers }) r c.args.heights.now) c.deref-4.ensures.value (swept t)))
    c.are_swept.ensures
