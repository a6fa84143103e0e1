use Rattle.tiling_laws.proofs.AreaDepths.{areas_no_deeper}
use Rattle.tiling_laws.proofs.Depths.{areas_have_kinds, soundings_no_deeper}
use Rattle.tiling_laws.proofs.depth_laws.Goals as goal

pub returns : goal.returns
returns c = record {
  kinds = areas_have_kinds;
  soundings = soundings_no_deeper;
  areas = areas_no_deeper c.winding_numbers.ensures.any_order c.count_parity.ensures.even c.mesh_counts.ensures.counts c.area_ranges.ensures.range c.area_ranges.ensures.kinds;
}
