use Rattle.std.proofs.Common.{◌∙◌, ap, sym, take}
use Rattle.chart_dev.specs.Files.{files_of}
use Rattle.chart_dev.specs.Memory.{contents}
use Rattle.chart_dev.proofs.FileLemmas.{appended_nothing, is-there-files, contents-grown}
use Rattle.chart_dev.proofs.mem_shelf.MemShelfShelf.append.Goals as goal

pub returns-then-count-clause-err : goal.returns-then-count-clause-err
returns-then-count-clause-err c =
    (0, rw (← c.self.view_is) (sym (appended_nothing (contents (files_of c.self.inside.files.entries)) c.args.name.now (rw (← c.self.view_is) at c.requires))))

pub extend-requires : goal.extend-requires
extend-requires c = is-there-files (files_of c.self.inside.files.entries) c.args.name.now (rw (← c.self.view_is) at c.requires)

pub returns-in-Ok-clause-ok : goal.returns-in-Ok-clause-ok
returns-in-Ok-clause-ok c =
    rw (← c.self.view_is) (ap contents c.in-Ok.ensures.ok ∙ contents-grown (files_of c.self.inside.files.entries) c.args.name.now (take c.min-count.result c.args.piece.now))

pub returns-in-Err-clause-err : goal.returns-in-Err-clause-err
returns-in-Err-clause-err c = (
  0,
  rw (← c.self.view_is)
      (ap contents c.in-Err.ensures.err ∙ sym (appended_nothing (contents (files_of c.self.inside.files.entries)) c.args.name.now (rw (← c.self.view_is) at c.requires))),
)
