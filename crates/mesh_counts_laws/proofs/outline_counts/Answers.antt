use Rattle.mesh_counts_laws.proofs.Outline.{outline_is_coverage, none_beyond}
use Rattle.mesh_counts_laws.proofs.Sides.{one_within}
use Rattle.mesh_counts_laws.proofs.outline_counts.Goals as goal

pub returns : goal.returns
returns c =
    let exact = outline_is_coverage c.boundary_sums.ensures.boundary_sum c.mesh_borders.ensures.both_ways in
    record { exact = exact; beyond = none_beyond exact; within = one_within exact }
