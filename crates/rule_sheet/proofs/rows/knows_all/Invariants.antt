use Rattle.std.proofs.Common.{◌≡◌}
use Rattle.toml.specs.View.{members_view}
use Rattle.rule_sheet.specs.Keys.{keys_of, all_known}
use Rattle.rule_sheet.proofs.rows.knows_all.Given as goal

abbrev pub invariant-loop-name : goal.invariant-loop-name
invariant-loop-name l = all_known l.keys (members_view l.name-iterator) ≡ all_known (keys_of l.version) (members_view l.table.entries)
