use Rattle.plane_laws.proofs.Lines.{side_back, side_round, side_changes_evenly, on_turned}
use Rattle.plane_laws.proofs.line_sides.Goals as goal

pub returns : goal.returns
returns c = record { back = side_back; round = side_round; evenly = side_changes_evenly; on_turned = on_turned }
