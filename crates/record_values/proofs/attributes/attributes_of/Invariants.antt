use Rattle.std.proofs.Common.{◌≡◌, ◌++◌, drop, option_map}
use Rattle.s57_codes.specs.Catalogue.{tag_attf}
use Rattle.record_values.specs.Attributes.{attributes, attributes_of}
use Rattle.record_values.specs.Fields.{bodies}
use Rattle.record_values.specs.Views.{views}
use Rattle.record_values.proofs.attributes.attributes_of.Given as goal

abbrev pub invariant-loop-field : goal.invariant-loop-field
invariant-loop-field l =
    option_map (λ more. l.list.items ++ more) (attributes_of (bodies tag_attf (views (drop l.field-index l.fields)))) ≡ attributes (views l.fields)
