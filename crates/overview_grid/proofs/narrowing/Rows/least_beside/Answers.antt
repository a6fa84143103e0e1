use Rattle.std.proofs.Common.{◌≡◌, ◌+◌, ◌-◌, ◌<◌, ◌≤◌, ◌⊎◌, inl, inr, arith}
use Rattle.overview_grid.proofs.NarrowLemmas.{beside}
use Rattle.overview_grid.proofs.narrowing.Rows.least_beside.Goals as goal
use Rattle.overview_grid.proofs.narrowing.Rows.least_beside.Goals.{then-col-self, else-col-self, then-self-col, else-self-col}

pub returns : goal.returns
returns c =
    let s = c.args.self.now in
    let col = c.args.col in
    let first = c.if-col-self.first in
    let past = c.if-self-col.past in
    let begins : first ≡ col - s.factor = elim c.if-col-self.branch [
      | then-col-self w ↦ omega (arith, w.if-col-self.true, w.first-is)
      | else-col-self w ↦ omega (arith, w.if-col-self.false, w.first-is)
    ] in
    let ends : ((past ≡ s.cols) × (s.cols ≤ col + s.factor)) ⊎ ((past ≡ col + s.factor + 1) × (col + s.factor < s.cols)) = elim c.if-self-col.branch [
      | then-self-col w ↦ inl (omega (arith, w.past-is), omega (arith, w.if-self-col.true))
      | else-self-col w ↦ inr (omega (arith, w.past-is), omega (arith, w.if-self-col.false))
    ] in
    beside s.values.now s.cols s.factor c.args.row col first past c.least_between.result begins ends c.least_between.ensures
