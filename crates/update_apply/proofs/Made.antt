-- The parts that changes make of a chart's parts may be a chart's.
use Rattle.std.proofs.Common.{◌≡◌, ◌<◌, ◌^◌, Ok, List, length, sym, ap, ap₂, ◌∙◌}
use Rattle.std.specs.Prelude.{All}
use Rattle.chart_model.specs.Whole.{IsText, IsWellFormed, IsWhole}
use Rattle.chart_model.specs.declared.records.Parts.{Parts}
use Rattle.update_reader.specs.Sound.{IsSoundChange}
use Rattle.update_reader.specs.declared.change.Change.{Change}
use Rattle.update_reader.specs.declared.change.Update.{Update}
use Rattle.update_apply.specs.Applied.{with_issue}
use Rattle.update_apply.specs.Law.{HasOnce, KeepsOnce}
use Rattle.update_apply.specs.Making.{parts_after}
use Rattle.update_apply.proofs.Formed.{AreFew, keeps_conditions}
use Rattle.update_apply.proofs.Steps.{EditLaws}

-- the base as it is lent, the draft that is made of it, and the changes as they are lent
module _ (base lent draft new : Parts) (u : Update) (changes : List Change) (same : lent ≡ base) (begun : draft ≡ with_issue u.issue lent) (all : changes ≡ u.changes)
    (made : parts_after changes draft ≡ Ok new) where
  made_of_base : parts_after u.changes (with_issue u.issue base) ≡ Ok new
  made_of_base = sym (ap₂ parts_after all (begun ∙ ap (with_issue u.issue) same)) ∙ made

  pub made_formed : EditLaws → IsWhole base → AreFew base → length u.changes < 2 ^ 31 → IsText u.issue.updn → All IsSoundChange u.changes → IsWellFormed new
  made_formed laws whole few turns updn sound = keeps_conditions laws u.changes u.issue base new whole.well_formed few turns updn sound made_of_base

  pub made_once : KeepsOnce → IsWhole base → HasOnce new
  made_once keeps whole =
      keeps u.changes (with_issue u.issue base) new (record { isolated = whole.isolated_once; connected = whole.connected_once; edges = whole.edges_once; features = whole.features_once }) made_of_base
