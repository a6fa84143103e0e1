use Rattle.std.proofs.Common.{◌≡◌, ◌+◌, ◌-◌, ◌^◌, ◌<◌, ◌≤◌, length, drop}
use Rattle.std.specs.Int.Digits.{number_from_digits_after}
use Rattle.exact_num.specs.Text.{leading, following, values}
use Rattle.grid_reader.proofs.short.with_digits.Given as goal

abbrev pub invariant-loop-at : goal.invariant-loop-at
invariant-loop-at l = record {
  from : l.from ≤ l.at;
  within : l.at ≤ l.to;
  number : number_from_digits_after 10 l.number (values (leading (drop l.at l.text))) ≡ number_from_digits_after 10 l.fn.number (values (leading (drop l.from l.text)));
  count : l.at + length (leading (drop l.at l.text)) ≡ l.from + length (leading (drop l.from l.text));
  rest : following (drop l.at l.text) ≡ following (drop l.from l.text);
  below : l.number < 10 ^ l.at;
}

abbrev pub decreases-loop-at : goal.decreases-loop-at
decreases-loop-at l = l.to - l.at
