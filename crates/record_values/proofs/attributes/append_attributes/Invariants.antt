use Rattle.std.proofs.Common.{◌≡◌, ◌++◌, ◌-◌, length, option_map}
use Rattle.record_values.specs.Attributes.{attributes_at, attributes_in}
use Rattle.record_values.proofs.attributes.append_attributes.Given as goal

abbrev pub invariant-loop : goal.invariant-loop
invariant-loop l =
    option_map (λ more. l.list.items ++ more) (attributes_at (length l.body - l.counter) l.rest) ≡ option_map (λ more. l.fn.list.items ++ more) (attributes_in l.body)
