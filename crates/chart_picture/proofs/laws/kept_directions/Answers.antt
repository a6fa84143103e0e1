use Rattle.chart_picture.proofs.Directions.{directions}
use Rattle.chart_picture.proofs.laws.kept_directions.Goals as goal

pub returns : goal.returns
returns c = directions
