use Rattle.std.proofs.Common.{◌≡◌, ◌↔◌, ◌+◌, ◌-◌, IsTrue, arith, sym, ◌∙◌}
use Rattle.std.proofs.lemmas.Bool.{false≢true}
use Rattle.exact_num.specs.Number.{scaled}
use Rattle.exact_num.specs.Value.{SameValue, same_value}
use Rattle.exact_num.proofs.Values.{same_shifted, same_swapped, same_zero, as_test, differ, agree}
use Rattle.exact_num.proofs.decimal.same.Goals as goal

pub returns-then-is_zero : goal.returns-then-is_zero
unfolding same_value
returns-then-is_zero c =
    let zeros : IsTrue c.is_zero-then-is_zero.result ↔ ((c.a.inside.digits ≡ 0) × (c.b.inside.digits ≡ 0)) =
    (λ h. (c.is_zero.ensures.0 c.if-is_zero.true, c.is_zero-then-is_zero.ensures.0 h), λ h. c.is_zero-then-is_zero.ensures.1 h.1) in
    let tells : IsTrue c.is_zero-then-is_zero.result ↔ SameValue c.args.a.now c.args.b.now =
    rw (← c.a.view_is, ← c.b.view_is) (same_zero _ _ c.is_zero-then-is_zero.result (differ c.a.inside.negative c.b.inside.negative c.if-a-b.true) zeros) in
    record { test = as_test c.is_zero-then-is_zero.result (scaled c.args.a.now c.args.b.now.lowered) (scaled c.args.b.now c.args.a.now.lowered) tells; value = tells }

pub returns-else-is_zero : goal.returns-else-is_zero
unfolding same_value
returns-else-is_zero c =
    let zeros : IsTrue c.is_zero.result ↔ ((c.a.inside.digits ≡ 0) × (c.b.inside.digits ≡ 0)) =
    (λ h. absurd (false≢true (sym c.if-is_zero.false ∙ h)), λ h. c.is_zero.ensures.1 h.0) in
    let tells : IsTrue c.is_zero.result ↔ SameValue c.args.a.now c.args.b.now =
    rw (← c.a.view_is, ← c.b.view_is) (same_zero _ _ c.is_zero.result (differ c.a.inside.negative c.b.inside.negative c.if-a-b.true) zeros) in
    record { test = as_test c.is_zero.result (scaled c.args.a.now c.args.b.now.lowered) (scaled c.args.b.now c.args.a.now.lowered) tells; value = tells }

pub returns-then-up-down : goal.returns-then-up-down
unfolding same_value
returns-then-up-down c =
    let tells : IsTrue c.times_is.result ↔ SameValue c.args.a.now c.args.b.now =
    rw (← c.a.view_is, ← c.b.view_is) (same_shifted (record { negative = c.a.inside.negative; digits = c.a.inside.digits; raised = c.a.inside.raised; lowered = c.a.inside.lowered }) (record { negative = c.b.inside.negative; digits = c.b.inside.digits; raised = c.b.inside.raised; lowered = c.b.inside.lowered }) (c.a.inside.raised + c.b.inside.lowered - (c.b.inside.raised + c.a.inside.lowered)) c.times_is.result (agree c.a.inside.negative c.b.inside.negative c.if-a-b.false) (omega (arith, c.if-up-down.true)) c.times_is.ensures) in
    record { test = as_test c.times_is.result (scaled c.args.a.now c.args.b.now.lowered) (scaled c.args.b.now c.args.a.now.lowered) tells; value = tells }

pub returns : goal.returns
unfolding same_value
returns c =
    let tells : IsTrue c.times_is-2.result ↔ SameValue c.args.a.now c.args.b.now =
    rw (← c.a.view_is, ← c.b.view_is) (same_swapped (record { negative = c.a.inside.negative; digits = c.a.inside.digits; raised = c.a.inside.raised; lowered = c.a.inside.lowered }) (record { negative = c.b.inside.negative; digits = c.b.inside.digits; raised = c.b.inside.raised; lowered = c.b.inside.lowered }) c.times_is-2.result (same_shifted (record { negative = c.b.inside.negative; digits = c.b.inside.digits; raised = c.b.inside.raised; lowered = c.b.inside.lowered }) (record { negative = c.a.inside.negative; digits = c.a.inside.digits; raised = c.a.inside.raised; lowered = c.a.inside.lowered }) (c.b.inside.raised + c.a.inside.lowered - (c.a.inside.raised + c.b.inside.lowered)) c.times_is-2.result (sym (agree c.a.inside.negative c.b.inside.negative c.if-a-b.false)) (omega (arith, c.if-up-down.false)) c.times_is-2.ensures)) in
    record { test = as_test c.times_is-2.result (scaled c.args.a.now c.args.b.now.lowered) (scaled c.args.b.now c.args.a.now.lowered) tells; value = tells }
