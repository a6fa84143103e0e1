use Rattle.overview_laws.proofs.Shoal.{overviews_stay_shoal}
use Rattle.overview_laws.proofs.overviews_stay_shoal.Goals as goal

pub returns : goal.returns
returns c =
    overviews_stay_shoal c.boundary_sums.ensures.boundary_sum c.mesh_borders.ensures.both_ways c.mesh_borders.ensures.same_piece c.piece_counts.ensures.in_triangles c.winding_numbers.ensures.any_order c.count_parity.ensures.even
    c.mesh_counts.ensures.counts c.piece_laws.ensures.once c.area_ranges.ensures.range c.area_ranges.ensures.kinds c.coarse_grids.ensures.grids
