use Rattle.std.proofs.Common.{arith}
use Rattle.exact_num.proofs.Shifts.{few_tens}
use Rattle.exact_num.proofs.reading.small.Goals as goal

pub returns-clause-below : goal.returns-clause-below
returns-clause-below c = omega (arith, few_tens c.loop-c.c-index 6 (omega arith), c.loop-c.invariant.1)
