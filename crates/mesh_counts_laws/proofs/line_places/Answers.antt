use Rattle.mesh_counts_laws.proofs.Inside.{lines_inside}
use Rattle.mesh_counts_laws.proofs.line_places.Goals as goal

pub returns : goal.returns
returns c = record { inside = lines_inside }
