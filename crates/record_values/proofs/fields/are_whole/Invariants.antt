use Rattle.std.proofs.Common.{◌≡◌, drop}
use Rattle.record_values.specs.Fields.{are_whole}
use Rattle.record_values.specs.Views.{views}
use Rattle.record_values.proofs.fields.are_whole.Given as goal

abbrev pub invariant-loop-field : goal.invariant-loop-field
invariant-loop-field l = are_whole l.size l.tag (views l.fields) ≡ are_whole l.size l.tag (views (drop l.field-index l.fields))
