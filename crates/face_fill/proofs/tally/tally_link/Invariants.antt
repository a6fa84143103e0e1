use Rattle.std.proofs.Common.{map, ◌-◌}
use Rattle.std.specs.List.{range_with_len}
use Rattle.mesh_definitions.specs.declared.Sub.TheVariants.{Part}
use Rattle.face_fill.specs.TallyView.{AddsTo}
use Rattle.face_fill.proofs.tally.tally_link.Given as goal

abbrev pub invariant-loop-band : goal.invariant-loop-band
invariant-loop-band l = AddsTo l.table l.numbers (map (Part l.fn.link) (range_with_len l.first (l.band - l.first))) l.initial.tally l.tally
