use Rattle.tiling_laws.proofs.Tiles.{tiles}
use Rattle.tiling_laws.proofs.tiling_law.Goals as goal

pub returns : goal.returns
returns c = tiles c.winding_numbers.ensures.any_order c.count_parity.ensures.odd c.count_parity.ensures.even c.shares_of_sums.ensures.share c.shares_of_sums.ensures.apart c.shares_of_sums.ensures.member c.shares_of_sums.ensures.one c.mesh_counts.ensures.counts c.mesh_counts.ensures.outline c.edge_lines.ensures.lines c.edge_lines.ensures.areas
