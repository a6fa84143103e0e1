use Rattle.ring_laws.proofs.AtMostOne.{one_is_exterior}
use Rattle.ring_laws.proofs.one_exterior.Goals as goal

pub returns : goal.returns
returns c = record { one = one_is_exterior }
