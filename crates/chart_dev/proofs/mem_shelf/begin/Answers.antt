use Rattle.std.proofs.Common.{rules, ◌≡◌, ◌∙◌, ap, sym, None}
use Rattle.std.specs.FinMap.{get, insert}
use Rattle.chart_dev.specs.Files.{files_of}
use Rattle.chart_dev.specs.Memory.{emptied, stored_at}
use Rattle.chart_dev.proofs.FileLemmas.{files_of-updates, stored-found, stored-absent, stored_none, put_as, on_err}
use Rattle.chart_dev.proofs.mem_shelf.begin.Goals as goal

pub returns-in-Some-clause-ok : goal.returns-in-Some-clause-ok
returns-in-Some-clause-ok c =
    files_of-updates c.args.name.now c.args.files.now (c.get_mut.follows.lender c.clear.new.self) c.clear.new.self ((c.get_mut.follows.holds c.clear.new.self).3 (search rules))
    ∙ ap (insert (files_of c.args.files.now.entries) c.args.name.now)
    (c.clear.ensures ∙ ap emptied (sym (stored-found c.args.files.now c.args.name.now c.in-Some.store.now c.in-Some.ensures.value)))

-- where the name isn't there, the map stays as it was until the name is put
absent : (c : goal.After-put) → get (files_of c.args.files.now.entries) c.args.name.now ≡ None
absent c = stored-absent c.args.files.now c.args.name.now c.in-None.ensures.value

pub returns-in-None-clause-ok : goal.returns-in-None-clause-ok
returns-in-None-clause-ok c =
    let empty : c.new.result ≡ emptied (stored_at (files_of c.args.files.now.entries) c.args.name.now) = c.new.ensures ∙ ap emptied (sym (stored_none (files_of c.args.files.now.entries) c.args.name.now (absent c))) in
    put_as c.put.result (files_of c.put.new.files.entries) (files_of c.args.files.now.entries) c.args.name.now c.new.result empty (search rules)

pub returns-in-None-clause-absent : goal.returns-in-None-clause-absent
returns-in-None-clause-absent c = on_err c.put.result (absent c)
