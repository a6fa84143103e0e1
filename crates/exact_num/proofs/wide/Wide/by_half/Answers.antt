use Rattle.std.proofs.Common.{◌≡◌, ◌*◌, ◌^◌, arith}
use Rattle.exact_num.proofs.Shifts.{tens_room, drop_low, part_of_halves, part_of_low}
use Rattle.exact_num.proofs.wide.Wide.by_half.Goals as goal

pub returns-then-self-eq0 : goal.returns-then-self-eq0
returns-then-self-eq0 c = part_of_low c.args.self c.self.inside.high c.self.inside.low c.tens_of-tens.result (10 ^ c.args.places) c.self.view_is c.if-self-eq0.true c.tens_of-tens.ensures.value c.tens_of-tens.ensures.some

pub overflow_mul-whole : goal.overflow_mul-whole
overflow_mul-whole c =
    let base : c.tens_of-tens.result * c.tens_of-room.result ≡ 10 ^ 32 = rw (c.tens_of-tens.ensures.value, c.tens_of-room.ensures.value) (tens_room c.args.places (omega arith)) in
    omega (arith, drop_low c.self.inside.high c.self.inside.low c.tens_of-tens.result c.tens_of-room.result (10 ^ 32) base c.tens_of-tens.ensures.some c.self.invariant.1)

pub overflow_add-whole : goal.overflow_add-whole
overflow_add-whole c =
    let base : c.tens_of-tens.result * c.tens_of-room.result ≡ 10 ^ 32 = rw (c.tens_of-tens.ensures.value, c.tens_of-room.ensures.value) (tens_room c.args.places (omega arith)) in
    omega (arith, drop_low c.self.inside.high c.self.inside.low c.tens_of-tens.result c.tens_of-room.result (10 ^ 32) base c.tens_of-tens.ensures.some c.self.invariant.1)

pub invariant_of-whole : goal.invariant_of-whole
invariant_of-whole c =
    let base : c.tens_of-tens.result * c.tens_of-room.result ≡ 10 ^ 32 = rw (c.tens_of-tens.ensures.value, c.tens_of-room.ensures.value) (tens_room c.args.places (omega arith)) in
    (omega (arith, c.self.invariant.0), drop_low c.self.inside.high c.self.inside.low c.tens_of-tens.result c.tens_of-room.result (10 ^ 32) base c.tens_of-tens.ensures.some c.self.invariant.1)

pub returns : goal.returns
returns c =
    let base : c.tens_of-tens.result * c.tens_of-room.result ≡ 10 ^ 32 = rw (c.tens_of-tens.ensures.value, c.tens_of-room.ensures.value) (tens_room c.args.places (omega arith)) in
    part_of_halves c.args.self c.self.inside.high c.self.inside.low c.tens_of-tens.result c.tens_of-room.result (10 ^ c.args.places) c.self.view_is c.tens_of-tens.ensures.value base c.tens_of-tens.ensures.some
