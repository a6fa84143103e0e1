use Rattle.point_laws.proofs.Placing.{true_place}
use Rattle.point_laws.proofs.points_are_placed.Goals as goal

pub returns : goal.returns
returns c = true_place c.piece_laws.ensures.once c.edge_lines.ensures.areas c.sound_edges.ensures.on_areas
