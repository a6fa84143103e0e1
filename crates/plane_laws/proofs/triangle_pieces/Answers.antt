use Rattle.plane_laws.proofs.Pieces.{corner_convex, middle_convex, middle_convex_back, leg_from_other_end}
use Rattle.plane_laws.proofs.triangle_pieces.Goals as goal

pub returns : goal.returns
returns c = record { corner = corner_convex; middle = middle_convex; middle_back = middle_convex_back; other_end = leg_from_other_end }
