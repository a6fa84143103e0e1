use Rattle.exact_num.proofs.Values.{huge_floor}
use Rattle.exact_num.proofs.decimal.scaled_floor.Goals as goal

pub returns-in_default-clause-beyond : goal.returns-in_default-clause-beyond
returns-in_default-clause-beyond c = rw (← c.value.view_is) (huge_floor _ c.args.places c.in_default.ensures.none)
