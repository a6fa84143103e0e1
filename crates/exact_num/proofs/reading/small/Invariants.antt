use Rattle.std.proofs.Common.{◌≡◌, ◌^◌, ◌<◌, drop}
use Rattle.std.specs.Str.{all_ascii_digits}
use Rattle.std.specs.Int.Digits.{number_from_digits, number_from_digits_after}
use Rattle.exact_num.specs.Text.{values}
use Rattle.exact_num.proofs.reading.small.Given as goal

abbrev pub invariant-loop-c : goal.invariant-loop-c
invariant-loop-c l =
    (number_from_digits_after 10 l.n (values (drop l.c-index l.text)) ≡ number_from_digits 10 (values l.text))
    × (l.n < 10 ^ l.c-index)
    × (all_ascii_digits (drop l.c-index l.text) ≡ all_ascii_digits l.text)
