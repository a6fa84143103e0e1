use Rattle.std.proofs.Common.{◌≡◌, length, take}
use Rattle.record_values.specs.Fields.{bodies}
use Rattle.record_values.specs.Views.{views}
use Rattle.record_values.proofs.fields.count_of.Given as goal

abbrev pub invariant-loop-field : goal.invariant-loop-field
invariant-loop-field l = l.count ≡ length (bodies l.tag (views (take l.field-index l.fields)))
