use Rattle.std.proofs.Common.{List, map, refl}
use Rattle.std.specs.List.{flat_map}
use Rattle.chart_model.specs.declared.records.Attribute.{Attribute}
use Rattle.cell_writer.specs.Layout.{attribute_values}
use Rattle.s57_records.specs.Fields.{attribute}
use Rattle.s57_records.specs.Formats.{AllFit, field_of}
use Rattle.cell_writer.proofs.Loops.{all_through, more, one_more}
use Rattle.cell_writer.proofs.fields.put_attributes.Goals as goal

pub loop-attribute-preserved : goal.loop-attribute-preserved
loop-attribute-preserved c =
    let k = c.loop-attribute.attribute-index in
    record {
      items = more (λ (ys : List Attribute). flat_map (field_of attribute) (map attribute_values ys)) (λ (y : Attribute). field_of attribute (attribute_values y)) c.args.attributes.now k c.attribute-item.result _ _ _
          c.loop-attribute-test.true c.attribute-item.is refl c.in_ok-put_attribute.ensures.items c.loop-attribute.invariant.items;
      fits = one_more (λ (y : Attribute). AllFit attribute (attribute_values y)) c.args.attributes.now k c.attribute-item.result c.loop-attribute-test.true c.attribute-item.is c.loop-attribute.invariant.fits c.in_ok-put_attribute.ensures.fits;
    }

pub returns-clause-fits : goal.returns-clause-fits
returns-clause-fits c = all_through (λ (y : Attribute). AllFit attribute (attribute_values y)) c.args.attributes.now c.loop-attribute.attribute-index c.loop-attribute-test.false c.loop-attribute.invariant.fits
