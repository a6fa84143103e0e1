use Rattle.ring_laws.proofs.Crossings.{changes}
use Rattle.ring_laws.proofs.crossing_laws.Goals as goal

pub returns : goal.returns
returns c = record { crossings = changes }
