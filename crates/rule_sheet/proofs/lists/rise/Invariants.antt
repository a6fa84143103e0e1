use Rattle.std.proofs.Common.{◌≡◌, drop}
use Rattle.rule_sheet.specs.Rows.{rises_from, rises}
use Rattle.rule_sheet.proofs.lists.rise.Given as goal

abbrev pub invariant-loop-z : goal.invariant-loop-z
invariant-loop-z l = rises_from l.last (drop l.z-index l.rest) ≡ rises l.zs
