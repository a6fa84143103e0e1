use Rattle.chart_picture.proofs.Corners.{corners}
use Rattle.chart_picture.proofs.laws.corners_of_paths.Goals as goal

pub returns : goal.returns
returns c = corners
