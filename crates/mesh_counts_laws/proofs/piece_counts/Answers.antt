use Rattle.mesh_counts_laws.proofs.InTriangles.{pieces_in_triangles}
use Rattle.mesh_counts_laws.proofs.Triangles.{pieces_from_zero}
use Rattle.mesh_counts_laws.proofs.piece_counts.Goals as goal

pub returns : goal.returns
returns c = record {
  from_zero = pieces_from_zero c.boundary_sums.ensures.boundary_sum c.mesh_borders.ensures.both_ways;
  in_triangles = pieces_in_triangles c.boundary_sums.ensures.boundary_sum c.mesh_borders.ensures.both_ways;
}
