use Rattle.std.proofs.Common.{◌∙◌, ap}
use Rattle.chart_dev.specs.Files.{files_of}
use Rattle.chart_dev.specs.Memory.{contents, emptied, stored_at}
use Rattle.chart_dev.proofs.FileLemmas.{contents-insert, is-there-insert}
use Rattle.chart_dev.proofs.mem_shelf.MemShelfShelf.start.Goals as goal

pub returns-in-Ok-clause-ok : goal.returns-in-Ok-clause-ok
returns-in-Ok-clause-ok c =
    let files = files_of c.self.inside.files.entries in
    rw (← c.self.view_is) (ap contents c.in-Ok.ensures.ok ∙ contents-insert files c.args.name.now (emptied (stored_at files c.args.name.now)))

pub returns-in-Ok-clause-there : goal.returns-in-Ok-clause-there
returns-in-Ok-clause-there c =
    let files = files_of c.self.inside.files.entries in
    rw c.in-Ok.ensures.ok (is-there-insert files c.args.name.now (emptied (stored_at files c.args.name.now)))
