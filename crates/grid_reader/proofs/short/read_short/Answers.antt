use Rattle.std.proofs.Common.{◌-◌, ◌+◌, arith}
use Rattle.grid_reader.proofs.Thousandths.{few_times}
use Rattle.grid_reader.proofs.ShortWords.{none_after, whole_word, point_word}
use Rattle.grid_reader.proofs.short.read_short.Goals as goal

pub overflow_mul-result : goal.overflow_mul-result
overflow_mul-result c =
    let w = c.with_digits-whole in
    let few = few_times w.result.0 w.result.1 3 w.ensures.below (omega (arith, w.ensures.within, c.if-body-gt-MOST_BYTES.false)) (omega arith) in
    record { fits = omega (arith, few) }

pub returns-then-point-body : goal.returns-then-point-body
returns-then-point-body c =
    let s = c.after_sign-negative in
    let w = c.with_digits-whole in
    whole_word c.args.word.now s.result.1.now s.result.0 w.result.0 w.result.1 s.ensures.minus s.ensures.rest (omega (arith, c.if-body-gt-MOST_BYTES.false))
    w.ensures.number (omega (arith, w.ensures.count)) w.ensures.rest c.if-point-body.true c.if-point-eq0.false w.ensures.below

pub overflow_mul-result-2 : goal.overflow_mul-result-2
overflow_mul-result-2 c =
    let f = c.with_digits-front in
    let point = c.with_digits-whole.result.1 in
    let few = few_times f.result.0 f.result.1 (point + 4 - f.result.1) f.ensures.below (omega (arith, f.ensures.within, c.end_of_thousandths-third.ensures.within, c.if-body-gt-MOST_BYTES.false)) (omega (arith, f.ensures.from)) in
    record { fits = rw c.power_of_ten.ensures.value (omega (arith, few)) }

pub returns : goal.returns
returns c =
    let s = c.after_sign-negative in
    let w = c.with_digits-whole in
    let third = c.end_of_thousandths-third in
    let f = c.with_digits-front in
    let r = c.with_digits-rest in
    let point = w.result.1 in
    rw c.power_of_ten.ensures.value (point_word c.args.word.now s.result.1.now s.result.0 w.result.0 point f.result.0 f.result.1 r.result.0 r.result.1
    s.ensures.minus s.ensures.rest (omega (arith, c.if-body-gt-MOST_BYTES.false))
    w.ensures.number (omega (arith, w.ensures.count)) w.ensures.rest (omega (arith, w.ensures.within, c.if-point-body.false)) c.if-body-point-ne46.false
    f.ensures.number f.ensures.count f.ensures.rest (omega (arith, f.ensures.from)) (omega (arith, f.ensures.within, third.ensures.within)) (omega (arith, f.ensures.within, third.ensures.few)) (none_after s.result.1.now point third.result f.result.1 f.ensures.within third.ensures.all f.ensures.stops) f.ensures.below
    r.ensures.number r.ensures.count r.ensures.rest (omega (arith, c.if-end-body.false)) c.if-end-eq1.false)
