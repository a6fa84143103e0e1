use Rattle.mesh_ground_laws.proofs.Cells.{fields_have_one_class}
use Rattle.mesh_ground_laws.proofs.Counted.{fields_keep_ground}
use Rattle.mesh_ground_laws.proofs.ground_laws.Goals as goal

pub returns : goal.returns
returns c = record {
  counted = fields_keep_ground c.boundary_sums.ensures.boundary_sum c.mesh_borders.ensures.both_ways c.mesh_borders.ensures.same_piece c.piece_counts.ensures.in_triangles;
  one_class = fields_have_one_class;
}
