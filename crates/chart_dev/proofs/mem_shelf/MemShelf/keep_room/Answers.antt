use Rattle.chart_dev.specs.Files.{files_of}
use Rattle.chart_dev.specs.Memory.{widened, stored_at}
use Rattle.chart_dev.proofs.FileLemmas.{is-there-files, still_there}
use Rattle.chart_dev.proofs.mem_shelf.MemShelf.keep_room.Goals as goal

pub widen-requires : goal.widen-requires
widen-requires c = is-there-files (files_of c.self.inside.files.entries) c.args.name.now (rw (← c.self.view_is) at c.requires)

pub returns-clause-there : goal.returns-clause-there
returns-clause-there c =
    let files = files_of c.self.inside.files.entries in
    still_there c.widen.result (files_of c.widen.new.files.entries) files c.args.name.now (widened c.args.bytes (stored_at files c.args.name.now)) c.widen.ensures.ok c.widen.ensures.err
    (rw (← c.self.view_is) at c.requires)
