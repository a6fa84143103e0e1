use Rattle.std.proofs.Common.{◌≡◌, ◌++◌, ◌∷◌, [], ◌-◌, ◌+◌, suc, length, ap, sym, ◌∙◌, arith, option_map, List, ℕ}
use Rattle.chart_model.specs.declared.records.Attribute.{Attribute}
use Rattle.record_values.specs.Attributes.{attributes_at}
use Rattle.record_values.proofs.AttributeSteps.{some_bytes, no_attributes, next_attribute}
use Rattle.record_values.proofs.attributes.append_attributes.Goals as goal

pub returns-in-None : goal.returns-in-None
returns-in-None c =
    let some = some_bytes c.loop.rest.now c.if-is_empty.ensures in
    sym c.loop.invariant ∙ ap (option_map (λ more. c.loop.list.items ++ more)) (no_attributes (length c.args.body.now - c.loop.counter) c.loop.rest.now some (sym c.in-None.ensures))

pub loop-preserved : goal.loop-preserved
loop-preserved c =
    let some = some_bytes c.loop.rest.now c.if-is_empty.ensures in
    let fewer : length c.args.body.now - c.loop.counter ≡ suc (length c.args.body.now - (c.loop.counter + 1)) = omega arith in
    let next = next_attribute (length c.args.body.now - c.loop.counter) (length c.args.body.now - (c.loop.counter + 1)) c.loop.rest.now c.loop.list.items c.in-Some.code c.in-Some.used c.in-Some.text.now fewer some (sym c.in-Some.ensures) in
    let text : c.over-text.result ≡ c.in-Some.text.now = c.over-text.ensures ∙ c.in_ok-from_slice-in-Some.ensures.items in
    let value : Attribute = record { code = c.in-Some.code; text = c.in-Some.text.now } in
    let pushed : c.push.new.self.items ≡ c.loop.list.items ++ value ∷ [] = c.in_ok-push-in-Some.ensures.items ∙ ap (λ (t : List ℕ). c.loop.list.items ++ record { code = c.in-Some.code; text = t } ∷ []) text in
    let left : ℕ = length c.args.body.now - (c.loop.counter + 1) in
    ap (λ l. option_map (λ more. l ++ more) (attributes_at left c.split_at.result.1.now)) pushed
    ∙ ap (λ bytes. option_map (λ more. (c.loop.list.items ++ value ∷ []) ++ more) (attributes_at left bytes)) c.split_at.ensures.back
    ∙ sym next ∙ c.loop.invariant
