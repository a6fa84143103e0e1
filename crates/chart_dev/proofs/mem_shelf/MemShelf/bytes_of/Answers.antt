use Rattle.std.proofs.Common.{◌∙◌, ◌≤◌, length, Some, ap, sym}
use Rattle.chart_dev.proofs.FileLemmas.{contents-found, stored-found, stored-absent, contents-absent}
use Rattle.chart_dev.specs.Files.{files_of}
use Rattle.chart_dev.proofs.mem_shelf.MemShelf.bytes_of.Goals as goal

pub returns-in-Some-clause-bytes : goal.returns-in-Some-clause-bytes
returns-in-Some-clause-bytes c =
    rw (← c.self.view_is) (ap Some c.bytes.ensures.bytes ∙ sym (contents-found c.self.inside.files c.args.name.now c.in-Some.store.now c.in-Some.ensures.value))

pub returns-in-Some-clause-room : goal.returns-in-Some-clause-room
returns-in-Some-clause-room c =
    let room : length c.bytes.result.now ≤ c.in-Some.store.now.room = rw c.bytes.ensures.bytes c.bytes.ensures.room in
    rw (← c.self.view_is) (rw (stored-found c.self.inside.files c.args.name.now c.in-Some.store.now c.in-Some.ensures.value) room)

pub returns-in-None-clause-bytes : goal.returns-in-None-clause-bytes
returns-in-None-clause-bytes c =
    rw (← c.self.view_is) (sym (contents-absent (files_of c.self.inside.files.entries) c.args.name.now (stored-absent c.self.inside.files c.args.name.now c.in-None.ensures.value)))
