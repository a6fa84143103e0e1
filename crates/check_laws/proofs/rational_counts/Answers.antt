use Rattle.check_laws.proofs.Below.{none_below}
use Rattle.check_laws.proofs.Floors.{outline_single}
use Rattle.check_laws.proofs.rational_counts.Goals as goal

pub returns : goal.returns
returns c = record {
  none_below = none_below c.boundary_sums.ensures.boundary_sum c.mesh_borders.ensures.both_ways c.closed_pieces.ensures.convex;
  outline = outline_single c.mesh_lines.ensures.outline c.outline_counts.ensures.exact;
}
