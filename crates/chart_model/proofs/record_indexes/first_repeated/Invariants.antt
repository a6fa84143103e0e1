use Rattle.std.proofs.Common.{◌≡◌, take, drop}
use Rattle.chart_model.specs.Numbers.{repeated, repeated_after}
use Rattle.chart_model.proofs.record_indexes.first_repeated.Given as goal

abbrev pub invariant-loop-place : goal.invariant-loop-place
invariant-loop-place l = repeated_after (take l.place l.numbers) (drop l.place l.numbers) ≡ repeated l.numbers
