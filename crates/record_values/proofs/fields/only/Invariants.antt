use Rattle.std.proofs.Common.{◌≡◌, ◌++◌, drop, option_map, option_to_list}
use Rattle.record_values.specs.Fields.{bodies}
use Rattle.record_values.specs.Views.{views}
use Rattle.record_values.proofs.fields.only.Given as goal

abbrev pub invariant-loop-field : goal.invariant-loop-field
invariant-loop-field l =
    bodies l.tag (views l.fields) ≡ option_to_list (option_map (λ body. body.now) l.found) ++ bodies l.tag (views (drop l.field-index l.fields))
