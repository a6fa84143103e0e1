use Rattle.point_laws.proofs.Sides.{alike_draw_alike}
use Rattle.point_laws.proofs.drawn_alike.Goals as goal

pub returns : goal.returns
returns c = record { alike = alike_draw_alike }
