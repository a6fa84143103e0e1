use Rattle.std.proofs.Common.{◌≡◌, ◌/◌, flat_map, length, take}
use Rattle.record_values.specs.Fields.{bodies}
use Rattle.record_values.specs.Groups.{each}
use Rattle.record_values.specs.Views.{views}
use Rattle.record_values.proofs.groups.list_groups.Given as goal

abbrev pub invariant-loop-field : goal.invariant-loop-field
invariant-loop-field g l =
    l.list.items ≡ flat_map (λ body. each (g.G.Group.at body) (length body / l.size)) (bodies l.tag (views (take l.field-index l.fields)))
