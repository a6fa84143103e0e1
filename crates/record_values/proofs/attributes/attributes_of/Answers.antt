use Rattle.std.proofs.Common.{◌++◌, ◌+◌, ap, sym, ◌∙◌, drop, option_map, get_or, []}
use Rattle.iso8211_codec.specs.declared.record.Field.{Field}
use Rattle.s57_codes.specs.Catalogue.{tag_attf}
use Rattle.record_values.specs.Attributes.{attributes_of}
use Rattle.record_values.specs.Fields.{bodies}
use Rattle.record_values.specs.Views.{views}
use Rattle.record_values.proofs.AttributeSteps.{none_of, next_body}
use Rattle.record_values.proofs.FieldSteps.{not_false, next_body_of}
use Rattle.record_values.proofs.attributes.attributes_of.Goals as goal

abbrev nobody : Field
nobody = record { tag = []; body = record { ref_ptr = (0, 0); now = [] } }

pub returns-then-not-branch : goal.returns-then-not-branch
returns-then-not-branch c =
    let here = next_body_of tag_attf c.args.fields.now c.loop-field.field-index nobody c.loop-field-test.true (not_false _ _ c.ne.ensures c.if-ne.false) in
    let none = none_of c.loop-field.list.items (get_or c.args.fields.now c.loop-field.field-index nobody).body.now (bodies tag_attf (views (drop (c.loop-field.field-index + 1) c.args.fields.now))) (rw c.if-not-branch.true at c.in_ok-append_attributes.ensures) in
    sym (ap (option_map (λ more. c.loop-field.list.items ++ more)) (ap attributes_of here ∙ none)) ∙ c.loop-field.invariant

pub loop-field-preserved : goal.loop-field-preserved
loop-field-preserved c =
    let here = next_body_of tag_attf c.args.fields.now c.loop-field.field-index nobody c.loop-field-test.true (not_false _ _ c.ne.ensures c.if-ne.false) in
    let next = next_body c.loop-field.list.items c.append_attributes.new.list.items (get_or c.args.fields.now c.loop-field.field-index nobody).body.now (bodies tag_attf (views (drop (c.loop-field.field-index + 1) c.args.fields.now))) (rw c.if-not-branch.false at c.in_ok-append_attributes.ensures) in
    next ∙ sym (ap (option_map (λ more. c.loop-field.list.items ++ more)) (ap attributes_of here)) ∙ c.loop-field.invariant
