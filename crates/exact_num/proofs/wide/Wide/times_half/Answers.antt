use Rattle.std.proofs.Common.{◌≡◌, ◌*◌, ◌^◌, arith, ap, ◌∙◌}
use Rattle.exact_num.proofs.Shifts.{tens_room, below_times, carry_value, carry_high, carry_low, carry_none}
use Rattle.exact_num.proofs.wide.Wide.times_half.Goals as goal

pub returns-then-self-room-clause-none : goal.returns-then-self-room-clause-none
returns-then-self-room-clause-none c =
    let base : c.tens_of-tens.result * c.tens_of-room.result ≡ 10 ^ 32 = rw (c.tens_of-tens.ensures.value, c.tens_of-room.ensures.value) (tens_room c.args.places (omega arith)) in
    rw (← c.tens_of-tens.ensures.value) (carry_none c.args.self c.self.inside.high c.self.inside.low c.tens_of-tens.result c.tens_of-room.result (10 ^ 32) c.self.view_is base c.if-self-room.true)

pub overflow_mul-result : goal.overflow_mul-result
overflow_mul-result c =
    let base : c.tens_of-tens.result * c.tens_of-room.result ≡ 10 ^ 32 = rw (c.tens_of-tens.ensures.value, c.tens_of-room.ensures.value) (tens_room c.args.places (omega arith)) in
    omega (arith, below_times c.self.inside.low c.tens_of-room.result c.tens_of-tens.result c.if-self-room-2.true c.tens_of-tens.ensures.some)

pub invariant_of-result : goal.invariant_of-result
invariant_of-result c =
    let base : c.tens_of-tens.result * c.tens_of-room.result ≡ 10 ^ 32 = rw (c.tens_of-tens.ensures.value, c.tens_of-room.ensures.value) (tens_room c.args.places (omega arith)) in
    (omega arith, omega (arith, below_times c.self.inside.low c.tens_of-room.result c.tens_of-tens.result c.if-self-room-2.true c.tens_of-tens.ensures.some))

pub overflow_mul-result-2 : goal.overflow_mul-result-2
overflow_mul-result-2 c =
    let base : c.tens_of-tens.result * c.tens_of-room.result ≡ 10 ^ 32 = rw (c.tens_of-tens.ensures.value, c.tens_of-room.ensures.value) (tens_room c.args.places (omega arith)) in
    omega (arith, carry_high c.self.inside.high c.self.inside.low c.tens_of-tens.result c.tens_of-room.result (10 ^ 32) base c.tens_of-room.ensures.some c.if-self-room.false c.self.invariant.1)

pub overflow_add-result : goal.overflow_add-result
overflow_add-result c =
    let base : c.tens_of-tens.result * c.tens_of-room.result ≡ 10 ^ 32 = rw (c.tens_of-tens.ensures.value, c.tens_of-room.ensures.value) (tens_room c.args.places (omega arith)) in
    omega (arith, carry_high c.self.inside.high c.self.inside.low c.tens_of-tens.result c.tens_of-room.result (10 ^ 32) base c.tens_of-room.ensures.some c.if-self-room.false c.self.invariant.1)

pub overflow_mul-result-3 : goal.overflow_mul-result-3
overflow_mul-result-3 c =
    let base : c.tens_of-tens.result * c.tens_of-room.result ≡ 10 ^ 32 = rw (c.tens_of-tens.ensures.value, c.tens_of-room.ensures.value) (tens_room c.args.places (omega arith)) in
    omega (arith, carry_low c.self.inside.low c.tens_of-tens.result c.tens_of-room.result (10 ^ 32) base c.tens_of-room.ensures.some c.tens_of-tens.ensures.some)

pub invariant_of-result-2 : goal.invariant_of-result-2
invariant_of-result-2 c =
    let base : c.tens_of-tens.result * c.tens_of-room.result ≡ 10 ^ 32 = rw (c.tens_of-tens.ensures.value, c.tens_of-room.ensures.value) (tens_room c.args.places (omega arith)) in (
      carry_high c.self.inside.high c.self.inside.low c.tens_of-tens.result c.tens_of-room.result (10 ^ 32) base c.tens_of-room.ensures.some c.if-self-room.false c.self.invariant.1,
      carry_low c.self.inside.low c.tens_of-tens.result c.tens_of-room.result (10 ^ 32) base c.tens_of-room.ensures.some c.tens_of-tens.ensures.some,
    )

pub returns-clause-some : goal.returns-clause-some
returns-clause-some c =
    let base : c.tens_of-tens.result * c.tens_of-room.result ≡ 10 ^ 32 = rw (c.tens_of-tens.ensures.value, c.tens_of-room.ensures.value) (tens_room c.args.places (omega arith)) in
    rw (← c.tens_of-tens.ensures.value) (carry_value c.self.inside.high c.self.inside.low c.tens_of-tens.result c.tens_of-room.result (10 ^ 32) base c.tens_of-room.ensures.some ∙ ap (λ n. n * c.tens_of-tens.result) c.self.view_is)
