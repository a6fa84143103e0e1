use Rattle.exact_num.proofs.DecimetreTexts.{decimetres_same}
use Rattle.exact_num.proofs.laws.decimetres_differ.Goals as goal

pub returns : goal.returns
returns c = decimetres_same
