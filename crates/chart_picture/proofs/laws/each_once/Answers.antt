use Rattle.chart_picture.proofs.Marked.{pictures_draw_each_once}
use Rattle.chart_picture.proofs.laws.each_once.Goals as goal

pub returns : goal.returns
returns c = pictures_draw_each_once c.plain_numbers.ensures
