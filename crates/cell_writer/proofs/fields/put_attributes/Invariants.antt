use Rattle.std.proofs.Common.{◌≡◌, ◌++◌, drop, map, take}
use Rattle.std.specs.List.{All, flat_map}
use Rattle.cell_writer.specs.Layout.{attribute_values}
use Rattle.chart_model.specs.declared.records.Attribute.{Attribute}
use Rattle.s57_records.specs.Fields.{attribute}
use Rattle.s57_records.specs.Formats.{AllFit, field_of}
use Rattle.cell_writer.proofs.fields.put_attributes.Given as goal

-- what is there and the groups to come are all of them, and the values so far fit
abbrev pub invariant-loop-attribute : goal.invariant-loop-attribute
invariant-loop-attribute l = record {
  items : l.bodies.items ++ flat_map (field_of attribute) (map attribute_values (drop l.attribute-index l.attributes)) ≡ l.fn.bodies.items ++ flat_map (field_of attribute) (map attribute_values l.attributes);
  fits : All (λ (a : Attribute). AllFit attribute (attribute_values a)) (take l.attribute-index l.attributes);
}
