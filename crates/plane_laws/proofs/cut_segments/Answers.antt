use Rattle.plane_laws.proofs.Cuts.{cut_at_point, cut_at_points, steps_along}
use Rattle.plane_laws.proofs.cut_segments.Goals as goal

pub returns : goal.returns
returns c = record { once = cut_at_point; often = cut_at_points; in_steps = steps_along }
