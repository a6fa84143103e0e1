use Rattle.std.proofs.Common.{Some, inl, arith, ap, ◌∙◌}
use Rattle.std.proofs.lemmas.Int.{ints}
use Rattle.exact_num.proofs.Values.{at_zero, huge_whole, none_beyond, whole_of_all, whole_of_left, whole_small}
use Rattle.exact_num.proofs.decimal.whole.Goals as goal

pub returns-then-left-clause-none : goal.returns-then-left-clause-none
returns-then-left-clause-none c = inl (rw (← c.value.view_is) (whole_of_left _ c.in-Some.whole (rw c.if-left.true at c.in-Some.ensures.some)))

pub returns-then-value-clause-whole : goal.returns-then-value-clause-whole
returns-then-value-clause-whole c = rw (← c.value.view_is) (whole_of_all _ c.in-Some.whole (rw c.if-left.false at c.in-Some.ensures.some) ∙ ap Some (rw c.if-value.true (omega (arith, ints, c.in-Some.ensures.below))))

pub returns-then-value-clause-small : goal.returns-then-value-clause-small
returns-then-value-clause-small c = rw (← c.value.view_is) (whole_small (record { negative = c.value.inside.negative; digits = c.value.inside.digits; raised = c.value.inside.raised; lowered = c.value.inside.lowered }) c.in-Some.whole c.in-Some.left c.in-Some.ensures.some c.in-Some.ensures.below)

pub returns-clause-whole : goal.returns-clause-whole
returns-clause-whole c = rw (← c.value.view_is) (whole_of_all _ c.in-Some.whole (rw c.if-left.false at c.in-Some.ensures.some) ∙ ap Some (rw c.if-value.false (omega (arith, ints, c.in-Some.ensures.below))))

pub returns-clause-small : goal.returns-clause-small
returns-clause-small c = rw (← c.value.view_is) (whole_small (record { negative = c.value.inside.negative; digits = c.value.inside.digits; raised = c.value.inside.raised; lowered = c.value.inside.lowered }) c.in-Some.whole c.in-Some.left c.in-Some.ensures.some c.in-Some.ensures.below)

pub returns-then-left-clause-beyond : goal.returns-then-left-clause-beyond
returns-then-left-clause-beyond c = rw (← c.value.view_is) (none_beyond (record { negative = c.value.inside.negative; digits = c.value.inside.digits; raised = c.value.inside.raised; lowered = c.value.inside.lowered }) (whole_of_left _ c.in-Some.whole (rw c.if-left.true at c.in-Some.ensures.some)))

pub returns-in_default-clause-beyond : goal.returns-in_default-clause-beyond
returns-in_default-clause-beyond c = rw (← c.value.view_is) (huge_whole (record { negative = c.value.inside.negative; digits = c.value.inside.digits; raised = c.value.inside.raised; lowered = c.value.inside.lowered }) (rw at_zero c.in_default.ensures.none))
