use Rattle.std.proofs.Common.{◌≡◌, ◌+◌, ◌^◌, length, get_or, true, arith, sym, ap, ◌∙◌, ◌*◌}
use Rattle.std.specs.Char.{is_ascii_digit}
use Rattle.std.specs.Int.Digits.{number_from_digits_after}
use Rattle.exact_num.specs.Text.{values}
use Rattle.exact_num.proofs.Shifts.{few_tens, next_ten}
use Rattle.exact_num.proofs.Texts.{digit_small, leading_more, following_more}
use Rattle.exact_num.proofs.reading.digits.Goals as goal

pub then-number-requires-clause-room : goal.then-number-requires-clause-room
then-number-requires-clause-room c = omega (arith, few_tens (c.args.count + c.loop-i.i) 63 (omega arith), c.loop-i.invariant.3)

pub loop-i-preserved : goal.loop-i-preserved
loop-i-preserved c =
    let digit : is_ascii_digit (get_or c.args.text.now c.loop-i.i 0) ≡ true = sym c.is_ascii_digit.ensures.value ∙ c.if-not-is_ascii_digit.false in
    let more = leading_more c.args.text.now c.loop-i.i c.loop-i-test.true digit in
    let power : 10 ^ (c.args.count + (c.loop-i.i + 1)) ≡ 10 ^ (c.args.count + c.loop-i.i) * 10 = next_ten (c.args.count + c.loop-i.i) (c.args.count + (c.loop-i.i + 1)) (omega arith) in (
      rw c.then-number.ensures (ap (λ ds. number_from_digits_after 10 c.loop-i.number (values ds)) (sym more) ∙ c.loop-i.invariant.0),
      omega (arith, ap length more, c.loop-i.invariant.1),
      sym (following_more c.args.text.now c.loop-i.i c.loop-i-test.true digit) ∙ c.loop-i.invariant.2,
      omega (arith, power, c.then-number.ensures, c.loop-i.invariant.3, digit_small (get_or c.args.text.now c.loop-i.i 0) digit),
    )
