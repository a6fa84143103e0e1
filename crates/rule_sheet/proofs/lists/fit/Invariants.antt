use Rattle.std.proofs.Common.{◌≡◌, ◌+◌, drop}
use Rattle.rule_sheet.specs.Rows.{are_multiples}
use Rattle.rule_sheet.proofs.lists.fit.Given as goal

abbrev pub invariant-loop-k : goal.invariant-loop-k
invariant-loop-k l = are_multiples (drop l.k l.step_from) (drop (l.k + 1) l.steps) ≡ are_multiples l.step_from (drop 1 l.steps)
