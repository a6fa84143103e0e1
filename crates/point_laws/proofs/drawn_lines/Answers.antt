use Rattle.point_laws.proofs.DrawnLines.{drawn_are_lines}
use Rattle.point_laws.proofs.drawn_lines.Goals as goal

pub returns : goal.returns
returns c = record { lines = drawn_are_lines }
