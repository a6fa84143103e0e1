use Rattle.std.proofs.Common.{◌-◌}
use Rattle.face_fill.specs.TallyView.{AddsTo, row_chords}
use Rattle.face_fill.proofs.tally.tally_chord_row.Given as goal

abbrev pub invariant-loop-col : goal.invariant-loop-col
invariant-loop-col l = AddsTo l.table l.numbers (row_chords l.table l.row (l.col - l.table.nodes.rect.col)) l.initial.tally l.tally
