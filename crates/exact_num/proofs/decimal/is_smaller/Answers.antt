use Rattle.std.proofs.Common.{◌-◌, ◌+◌, arith}
use Rattle.exact_num.proofs.Orders.{smaller_up, smaller_down}
use Rattle.exact_num.proofs.decimal.is_smaller.Goals as goal

pub returns-then-up-down : goal.returns-then-up-down
returns-then-up-down c =
    rw (← c.a.view_is, ← c.b.view_is) (smaller_up (record { negative = c.a.inside.negative; digits = c.a.inside.digits; raised = c.a.inside.raised; lowered = c.a.inside.lowered }) (record { negative = c.b.inside.negative; digits = c.b.inside.digits; raised = c.b.inside.raised; lowered = c.b.inside.lowered }) (c.a.inside.raised + c.b.inside.lowered - (c.b.inside.raised + c.a.inside.lowered)) c.times_is_below.result (omega (arith, c.if-up-down.true)) c.times_is_below.ensures)

pub returns : goal.returns
returns c =
    rw (← c.a.view_is, ← c.b.view_is) (smaller_down (record { negative = c.a.inside.negative; digits = c.a.inside.digits; raised = c.a.inside.raised; lowered = c.a.inside.lowered }) (record { negative = c.b.inside.negative; digits = c.b.inside.digits; raised = c.b.inside.raised; lowered = c.b.inside.lowered }) (c.b.inside.raised + c.a.inside.lowered - (c.a.inside.raised + c.b.inside.lowered)) c.is_below_times.result (omega (arith, c.if-up-down.false)) c.is_below_times.ensures)
