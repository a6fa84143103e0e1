use Rattle.std.proofs.Common.{arith}
use Rattle.std.proofs.lemmas.Grind.{common_steps}
use Rattle.exact_num.specs.Printed.{degrees}
use Rattle.exact_num.proofs.PrintedTexts.{seven_padded}
use Rattle.exact_num.proofs.printing.degree_text.Goals as goal

pub returns : goal.returns
unfolding degrees
returns c = let h = rw c.laid_out.ensures at c.format.ensures.ok in grind (arith, common_steps, h, seven_padded)
