use Rattle.mesh_laws.proofs.Closed.{pieces_closed}
use Rattle.mesh_laws.proofs.Once.{pieces_once}
use Rattle.mesh_laws.proofs.piece_laws.Goals as goal

pub returns-clause-once : goal.returns-clause-once
returns-clause-once c = pieces_once

pub returns-clause-closed : goal.returns-clause-closed
returns-clause-closed c = pieces_closed c.boundary_sums.ensures.boundary_sum c.mesh_borders.ensures.both_ways
