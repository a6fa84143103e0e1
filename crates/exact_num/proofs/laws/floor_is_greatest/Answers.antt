use Rattle.exact_num.proofs.Worth.{floor_greatest}
use Rattle.exact_num.proofs.laws.floor_is_greatest.Goals as goal

pub returns : goal.returns
returns c = floor_greatest
