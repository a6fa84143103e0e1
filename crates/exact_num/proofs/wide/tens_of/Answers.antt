use Rattle.std.proofs.Common.{arith}
use Rattle.exact_num.proofs.Shifts.{one_tens, few_tens}
use Rattle.exact_num.proofs.Tens.{table_tens}
use Rattle.exact_num.proofs.wide.tens_of.Goals as goal

pub returns-clause-value : goal.returns-clause-value
returns-clause-value c = table_tens c.args.places (omega arith)

pub returns-clause-some : goal.returns-clause-some
returns-clause-some c = rw (table_tens c.args.places (omega arith)) (one_tens c.args.places)

pub returns-clause-most : goal.returns-clause-most
returns-clause-most c = rw (table_tens c.args.places (omega arith)) (few_tens c.args.places 32 (omega arith))
