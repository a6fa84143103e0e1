use Rattle.chart_picture.proofs.Plain.{numbers_plain}
use Rattle.chart_picture.proofs.laws.plain_numbers.Goals as goal

pub returns : goal.returns
returns c = numbers_plain c.reads_parts.ensures
