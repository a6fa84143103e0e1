use Rattle.exact_num.proofs.Worth.{whole_worth}
use Rattle.exact_num.proofs.laws.whole_is_worth.Goals as goal

pub returns : goal.returns
returns c = whole_worth
