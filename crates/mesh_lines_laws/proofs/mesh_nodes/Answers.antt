use Rattle.mesh_lines_laws.proofs.Counted.{fields_keep_nodes}
use Rattle.mesh_lines_laws.proofs.mesh_nodes.Goals as goal

pub returns : goal.returns
returns c = record { nodes = fields_keep_nodes c.boundary_sums.ensures.boundary_sum c.mesh_borders.ensures.both_ways }
