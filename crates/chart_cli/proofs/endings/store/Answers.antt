use Rattle.chart_cli.proofs.Storing.{done_or_failed, failed_store_ends, keeps_at_failure, keeps_others, stored_ends}
use Rattle.chart_cli.proofs.endings.store.Goals as goal

pub returns-in-Ok-clause-ends : goal.returns-in-Ok-clause-ends
returns-in-Ok-clause-ends g c = λ d h.
    stored_ends _ d c.args.cell.now c.args.answer.now c.say.result (g.S.Shelf.told c.args.shelf.now) (g.S.Shelf.told c.write_whole.new.shelf) (g.K.Sink.taken c.args.out.now) (g.K.Sink.taken c.say.new.out) h
    (rw (← c.deref.ensures.value) c.in-Ok.ensures.ok) (rw c.deref-in-Ok.ensures.value at c.say.ensures.said)

pub returns-in-Ok-clause-contents : goal.returns-in-Ok-clause-contents
returns-in-Ok-clause-contents g c = keeps_others c.say.result c.args.cell.now _ _ _ c.in-Ok.ensures.ok (done_or_failed _ _ _ _ _ c.say.ensures.said)

pub returns-in-Err-clause-ends : goal.returns-in-Err-clause-ends
returns-in-Err-clause-ends g c = λ d h.
    failed_store_ends d c.args.cell.now c.args.answer.now (g.S.Shelf.told c.args.shelf.now) (g.S.Shelf.told c.write_whole.new.shelf) (g.K.Sink.taken c.args.out.now) h
    (rw (← c.deref.ensures.value) c.in-Err.ensures.err)

pub returns-in-Err-clause-contents : goal.returns-in-Err-clause-contents
returns-in-Err-clause-contents g c = keeps_at_failure c.args.cell.now _ _ _ c.in-Err.ensures.err
