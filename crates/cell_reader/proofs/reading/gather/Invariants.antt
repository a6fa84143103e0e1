use Rattle.std.proofs.Common.{◌≡◌, length}
use Rattle.iso8211_codec.specs.Views.{to_come}
use Rattle.cell_reader.specs.Records.{nothing, contents_after}
use Rattle.cell_reader.specs.Views.{contents_of}
use Rattle.cell_reader.proofs.reading.gather.Given as goal

abbrev pub invariant-loop-answer : goal.invariant-loop-answer
invariant-loop-answer l = contents_after (contents_of l.all) (to_come l.records) ≡ contents_after nothing (to_come l.initial.records)

abbrev pub decreases-loop-answer : goal.decreases-loop-answer
decreases-loop-answer l = length (to_come l.records)
