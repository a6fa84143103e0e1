use Rattle.std.proofs.Common.{arith}
use Rattle.grid_reader.proofs.Thousandths.{below_tens}
use Rattle.grid_reader.proofs.short.with_digits.Goals as goal

pub overflow_mul-number : goal.overflow_mul-number
overflow_mul-number c =
    let few = below_tens c.loop-at.number c.loop-at.at 12 c.loop-at.invariant.below (omega (arith, c.loop-at-test.true, c.requires.short, c.requires.to)) in
    record { fits = omega (arith, few) }

pub overflow_add-number : goal.overflow_add-number
overflow_add-number c =
    let few = below_tens c.loop-at.number c.loop-at.at 12 c.loop-at.invariant.below (omega (arith, c.loop-at-test.true, c.requires.short, c.requires.to)) in
    record { fits = omega (arith, few, c.type_inv.text c.loop-at.at) }
