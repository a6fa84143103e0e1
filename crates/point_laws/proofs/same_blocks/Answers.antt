use Rattle.point_laws.proofs.Generalised.{generalised_once}
use Rattle.point_laws.proofs.Parted.{need_parts_once}
use Rattle.point_laws.proofs.same_blocks.Goals as goal

pub returns : goal.returns
returns c = record { generalised = generalised_once; blocks = need_parts_once }
