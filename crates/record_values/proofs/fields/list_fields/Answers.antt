use Rattle.std.proofs.Common.{◌++◌, ◌∷◌, [], ap, sym, ◌∙◌, map}
use Rattle.std.proofs.lemmas.List.{map_push}
use Rattle.iso8211_codec.specs.Reading.{seen}
use Rattle.iso8211_codec.specs.Views.{parts, field_view}
use Rattle.record_values.proofs.Steps.{seen_more}
use Rattle.record_values.proofs.fields.list_fields.Goals as goal

pub loop-k-preserved : goal.loop-k-preserved
loop-k-preserved c =
    let more = seen_more seen (parts c.args.raw.now) c.loop-k.k (field_view c.field.result) c.field.ensures in
    let pushed = map_push field_view c.loop-k.fields.items c.field.result in
    ap (map field_view) c.in_ok-push.ensures.items ∙ pushed ∙ ap (λ l. l ++ field_view c.field.result ∷ []) c.loop-k.invariant ∙ sym more
