use Rattle.chart_picture.proofs.Marked.{texts_have_one_each}
use Rattle.chart_picture.proofs.laws.one_each.Goals as goal

pub returns : goal.returns
returns c = texts_have_one_each c.plain_numbers.ensures
