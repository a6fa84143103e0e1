use Rattle.std.proofs.Common.{false, ◌∙◌, arith}
use Rattle.std.proofs.lemmas.Int.{ints}
use Rattle.exact_num.specs.Whole.{IsWholePart}
use Rattle.exact_num.proofs.Values.{floor_down}
use Rattle.exact_num.proofs.decimal.floor.Goals as goal

pub returns-clause-floor : goal.returns-clause-floor
returns-clause-floor c = λ n m part. rw c.if-not-negative.false (let part' : IsWholePart n m c.args.whole false = rw c.if-left.false at part in omega (arith, ints) ∙ floor_down n m c.args.whole part')
