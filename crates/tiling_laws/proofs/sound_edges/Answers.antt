use Rattle.tiling_laws.proofs.BothSides.{named_by_sides}
use Rattle.tiling_laws.proofs.OnAreas.{edge_on_area}
use Rattle.tiling_laws.proofs.Once.{segments_once}
use Rattle.tiling_laws.proofs.Parting.{edges_part_areas}
use Rattle.tiling_laws.proofs.sound_edges.Goals as goal

pub returns : goal.returns
returns c = record { once = segments_once; named = named_by_sides; on_areas = edge_on_area c.line_sides.ensures.on_turned; parting = edges_part_areas }
