use Rattle.std.proofs.Common.{◌≡◌, length}
use Rattle.iso8211_codec.specs.Views.{to_come}
use Rattle.update_reader.specs.Reading.{changes_in}
use Rattle.update_reader.proofs.Steps.{before}
use Rattle.update_reader.proofs.reading.changes_in.Given as goal

abbrev pub invariant-loop-answer : goal.invariant-loop-answer
invariant-loop-answer l = before l.changes.items (changes_in (to_come l.records)) ≡ changes_in (to_come l.initial.records)

abbrev pub decreases-loop-answer : goal.decreases-loop-answer
decreases-loop-answer l = length (to_come l.records)
