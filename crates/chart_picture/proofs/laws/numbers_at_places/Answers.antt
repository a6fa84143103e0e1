use Rattle.chart_picture.proofs.Marked.{numbers_stand_at_places}
use Rattle.chart_picture.proofs.laws.numbers_at_places.Goals as goal

pub returns : goal.returns
returns c = numbers_stand_at_places
