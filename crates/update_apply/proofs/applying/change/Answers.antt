use Rattle.update_apply.proofs.Made.{made_formed, made_once}
use Rattle.update_apply.proofs.Steps.{EditLaws}
use Rattle.update_apply.proofs.applying.change.Goals as goal

pub finished-requires-clause-formed : goal.finished-requires-clause-formed
finished-requires-clause-formed c =
    let laws : EditLaws = record { isolated = c.edit_laws.ensures.isolated; connected = c.edit_laws.ensures.connected; edge = c.edit_laws.ensures.edge; feature = c.edit_laws.ensures.feature } in
    made_formed c.args.base.now c.parts-parts.result.now c.in_ok-draft.draft c.make_all.new.draft c.args.update.now c.as_slice.result.now
    c.parts-parts.ensures.same c.in_ok-draft.ensures c.as_slice.ensures c.in_ok-make_all.ensures laws c.parts-parts.ensures.whole
    (c.requires.isolated, c.requires.connected, c.requires.edges, c.requires.features) c.requires.few c.requires.text c.requires.sound

pub finished-requires-clause-once : goal.finished-requires-clause-once
finished-requires-clause-once c =
    made_once c.args.base.now c.parts-parts.result.now c.in_ok-draft.draft c.make_all.new.draft c.args.update.now c.as_slice.result.now
    c.parts-parts.ensures.same c.in_ok-draft.ensures c.as_slice.ensures c.in_ok-make_all.ensures c.update_laws.ensures.once c.parts-parts.ensures.whole
