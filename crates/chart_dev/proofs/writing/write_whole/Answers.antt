use Rattle.std.proofs.Common.{take, inr}
use Rattle.chart_dev.proofs.Appends.{start_step, started_there}
use Rattle.chart_dev.proofs.writing.write_whole.Goals as goal

pub append_all-requires : goal.append_all-requires
append_all-requires g c = started_there (g.S.Shelf.told c.args.shelf.now) (g.S.Shelf.told c.start.new.self) c.args.name.now c.in-Ok.ensures.ok

pub returns-in-Ok-append_all-clause-ok : goal.returns-in-Ok-append_all-clause-ok
returns-in-Ok-append_all-clause-ok g c =
    start_step (g.S.Shelf.told c.args.shelf.now) (g.S.Shelf.told c.start.new.self) (g.S.Shelf.told c.append_all.new.shelf) c.args.name.now c.args.bytes.now c.in-Ok-append_all.ensures.ok c.in-Ok.ensures.ok

pub returns-in-Err-clause-err : goal.returns-in-Err-clause-err
returns-in-Err-clause-err g c =
    let part = c.in-Err.ensures.err in
    inr (part.0, start_step (g.S.Shelf.told c.args.shelf.now) (g.S.Shelf.told c.start.new.self) (g.S.Shelf.told c.append_all.new.shelf) c.args.name.now (take part.0 c.args.bytes.now) part.1 c.in-Ok.ensures.ok)
