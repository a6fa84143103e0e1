use Rattle.chart_dev.specs.Files.{files_of}
use Rattle.chart_dev.proofs.FileLemmas.{put_there}
use Rattle.chart_dev.proofs.mem_shelf.MemShelf.put_file.Goals as goal

pub returns-clause-there : goal.returns-clause-there
returns-clause-there c = put_there c.put.result (files_of c.put.new.files.entries) (files_of c.self.inside.files.entries) c.args.name.now c.in_ok-store.store c.put.ensures.ok
