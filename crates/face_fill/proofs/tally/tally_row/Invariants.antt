use Rattle.std.proofs.Common.{◌-◌}
use Rattle.face_fill.specs.TallyView.{AddsTo, row_parts}
use Rattle.face_fill.proofs.tally.tally_row.Given as goal

abbrev pub invariant-loop-col : goal.invariant-loop-col
invariant-loop-col l = AddsTo l.table l.numbers (row_parts l.table l.way l.row (l.col - l.table.nodes.rect.col)) l.initial.tally l.tally
