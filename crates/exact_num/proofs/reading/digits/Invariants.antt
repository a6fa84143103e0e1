use Rattle.std.proofs.Common.{◌≡◌, ◌+◌, ◌^◌, ◌<◌, length, drop}
use Rattle.std.specs.Int.Digits.{number_from_digits_after}
use Rattle.exact_num.specs.Text.{leading, following, values}
use Rattle.exact_num.proofs.reading.digits.Given as goal

abbrev pub invariant-loop-i : goal.invariant-loop-i
invariant-loop-i l =
    (number_from_digits_after 10 l.number (values (leading (drop l.i l.text))) ≡ number_from_digits_after 10 l.fn.number (values (leading l.text)))
    × (l.i + length (leading (drop l.i l.text)) ≡ length (leading l.text))
    × (following (drop l.i l.text) ≡ following l.text)
    × (l.number < 10 ^ (l.count + l.i))
