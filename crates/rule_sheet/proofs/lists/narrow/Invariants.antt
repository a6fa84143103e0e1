use Rattle.std.proofs.Common.{◌≡◌, take}
use Rattle.rule_sheet.proofs.lists.narrow.Given as goal

abbrev pub invariant-loop-z : goal.invariant-loop-z
invariant-loop-z l = l.numbers.items ≡ take l.z-index l.zs
