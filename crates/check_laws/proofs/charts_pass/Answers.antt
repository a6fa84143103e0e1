use Rattle.check_laws.proofs.Passing.{charts_pass}
use Rattle.check_laws.proofs.charts_pass.Goals as goal

pub returns : goal.returns
returns c = charts_pass c.charts_are_right.ensures.no_wrong c.charts_are_uncrossed.ensures
