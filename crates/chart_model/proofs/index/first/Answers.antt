use Rattle.std.proofs.Common.{arith}
use Rattle.chart_model.proofs.Indexing.{found_at, missing}
use Rattle.chart_model.proofs.index.first.Goals as goal
use Rattle.chart_model.proofs.index.first.Goals.{else-at-entries-via-then-at-entries+else-entries-at, else-at-entries-via-else-at-entries}

pub returns-then-entries-at : goal.returns-then-entries-at
returns-then-entries-at c = λ numbers x. found_at numbers _ _ c.lower_bound-at.result _ x (c.lower_bound-at.ensures x.ordered) c.if-at-entries.true c.if-entries-at.true

pub returns-else-at-entries : goal.returns-else-at-entries
returns-else-at-entries c = λ numbers x. missing numbers _ _ c.lower_bound-at.result (record { number = 0; place = 0 }) x (c.lower_bound-at.ensures x.ordered)
    (elim c.else-at-entries.branch [ else-at-entries-via-then-at-entries+else-entries-at w ↦ λ h. w.if-entries-at.false | else-at-entries-via-else-at-entries w ↦ λ h. absurd (omega (arith, h, w.if-at-entries.false)) ])
