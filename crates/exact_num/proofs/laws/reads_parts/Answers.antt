use Rattle.exact_num.proofs.ReadParts.{written, read}
use Rattle.exact_num.proofs.laws.reads_parts.Goals as goal

pub returns : goal.returns
returns c = λ text n. (written text n, read text n)
