use Rattle.chart_picture.proofs.Marked.{own_marks}
use Rattle.chart_picture.proofs.laws.own_marks.Goals as goal

pub returns : goal.returns
returns c = own_marks c.plain_numbers.ensures
