use Rattle.std.proofs.Common.{map}
use Rattle.std.specs.List.{range_with_len}
use Rattle.mesh_definitions.specs.declared.Sub.TheVariants.{Chord}
use Rattle.face_fill.specs.TallyView.{AddsTo}
use Rattle.face_fill.proofs.tally.tally_tri.Given as goal

abbrev pub invariant-loop-k : goal.invariant-loop-k
invariant-loop-k l = AddsTo l.table l.numbers (map (Chord l.fn.tri) (range_with_len l.first l.k)) l.initial.tally l.tally
