use Rattle.std.proofs.Common.{◌≡◌, drop}
use Rattle.toml.specs.View.{items_view}
use Rattle.rule_sheet.specs.Rows.{integers_in}
use Rattle.rule_sheet.proofs.RowLemmas.{with_front}
use Rattle.rule_sheet.proofs.lists.integers_of.Given as goal

abbrev pub invariant-loop-value : goal.invariant-loop-value
invariant-loop-value l = with_front l.numbers.items (integers_in (items_view (drop l.value-index l.items))) ≡ integers_in (items_view l.items)
