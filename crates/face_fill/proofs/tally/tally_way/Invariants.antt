use Rattle.std.proofs.Common.{◌-◌}
use Rattle.face_fill.specs.TallyView.{AddsTo, way_parts}
use Rattle.face_fill.proofs.tally.tally_way.Given as goal

abbrev pub invariant-loop-row : goal.invariant-loop-row
invariant-loop-row l = AddsTo l.table l.numbers (way_parts l.table l.way (l.row - l.table.nodes.rect.row) l.cols) l.initial.tally l.tally
