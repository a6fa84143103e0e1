use Rattle.plane_laws.proofs.Rectangles.{rectangle_count}
use Rattle.plane_laws.proofs.rectangle_counts.Goals as goal

pub returns : goal.returns
returns c = rectangle_count
