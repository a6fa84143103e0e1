use Rattle.std.proofs.Common.{rules, ◌∙◌, ap, sym}
use Rattle.std.proofs.lemmas.Bool.{false≢true}
use Rattle.std.specs.FinMap.{insert}
use Rattle.chart_dev.specs.Files.{files_of}
use Rattle.chart_dev.specs.Memory.{grown}
use Rattle.chart_dev.proofs.FileLemmas.{files_of-updates, get-files_of, stored-found, insert_same}
use Rattle.chart_dev.proofs.mem_shelf.extend.Goals as goal

pub unreachable-requires : goal.unreachable-requires
unreachable-requires c = false≢true (rw (get-files_of c.args.files.now c.args.name.now, ← c.in-None.ensures.value) at c.requires)

pub returns-in-Ok-clause-ok : goal.returns-in-Ok-clause-ok
returns-in-Ok-clause-ok c =
    files_of-updates c.args.name.now c.args.files.now (c.get_mut.follows.lender c.append.new.self) c.append.new.self ((c.get_mut.follows.holds c.append.new.self).3 (search rules))
    ∙ ap (insert (files_of c.args.files.now.entries) c.args.name.now)
    (c.in-Ok.ensures.ok ∙ ap (grown c.args.piece.now) (sym (stored-found c.args.files.now c.args.name.now c.in-Some.store.now c.in-Some.ensures.value)))

pub returns-in-Err-clause-err : goal.returns-in-Err-clause-err
returns-in-Err-clause-err c =
    files_of-updates c.args.name.now c.args.files.now (c.get_mut.follows.lender c.append.new.self) c.append.new.self ((c.get_mut.follows.holds c.append.new.self).3 (search rules))
    ∙ ap (insert (files_of c.args.files.now.entries) c.args.name.now) c.in-Err.ensures.err
    ∙ insert_same (files_of c.args.files.now.entries) c.args.name.now c.in-Some.store.now (get-files_of c.args.files.now c.args.name.now ∙ sym c.in-Some.ensures.value)

pub returns-in-Err-clause-full : goal.returns-in-Err-clause-full
returns-in-Err-clause-full c = rw (stored-found c.args.files.now c.args.name.now c.in-Some.store.now c.in-Some.ensures.value) c.in-Err.ensures.full
