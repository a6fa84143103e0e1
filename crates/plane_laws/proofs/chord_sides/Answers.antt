use Rattle.plane_laws.proofs.Chords.{side_on_first_leg, side_on_second_leg, side_at_point}
use Rattle.plane_laws.proofs.chord_sides.Goals as goal

pub returns : goal.returns
returns c = record { first_leg = side_on_first_leg; second_leg = side_on_second_leg; at_point = side_at_point }
