use Rattle.std.proofs.Common.{◌^◌, arith, ◌∙◌}
use Rattle.exact_num.proofs.Values.{whole_only, whole_huge, part_scaled, part_huge}
use Rattle.exact_num.proofs.decimal.whole_part.Goals as goal

pub returns-in_default-clause-none : goal.returns-in_default-clause-none
returns-in_default-clause-none c = whole_huge c.args.digits c.args.up c.args.down (10 ^ 30) c.if-up-down.true (omega (arith, c.in_default.ensures.none))

pub returns-in_default-small-clause-none : goal.returns-in_default-small-clause-none
returns-in_default-small-clause-none c = whole_huge c.args.digits c.args.up c.args.down (10 ^ 30) c.if-up-down.true (omega (arith, c.in_default-small.ensures.none, c.in-Some.ensures.some))

pub returns-then-up-down-clause-some : goal.returns-then-up-down-clause-some
returns-then-up-down-clause-some c = whole_only c.args.digits c.args.up c.args.down c.in-Some-small.whole c.if-up-down.true (c.in-Some-small.ensures.some ∙ c.in-Some.ensures.some)

pub returns-in_default-small-2-clause-none : goal.returns-in_default-small-2-clause-none
returns-in_default-small-2-clause-none c = part_huge c.args.digits c.args.up c.args.down c.by-part.result.0 (10 ^ 30) c.by-part.result.1 (omega arith) c.by-part.ensures c.in_default-small-2.ensures.none

pub returns-clause-some : goal.returns-clause-some
returns-clause-some c = rw c.in-Some-small-2.ensures.some (part_scaled c.args.digits c.args.up c.args.down c.by-part.result.0 c.by-part.result.1 (omega arith) c.by-part.ensures)
