use Rattle.std.proofs.Common.{◌-◌}
use Rattle.face_fill.specs.TallyView.{AddsTo, all_chords}
use Rattle.face_fill.proofs.tally.tally_chords.Given as goal

abbrev pub invariant-loop-row : goal.invariant-loop-row
invariant-loop-row l = AddsTo l.table l.numbers (all_chords l.table (l.row - l.table.nodes.rect.row)) l.initial.tally l.tally
