use Rattle.std.proofs.Common.{ap, ◌∙◌, string_bytes, ◌≡◌}
use Rattle.std.specs.FinMap.{insert}
use Rattle.chart_dev.specs.Files.{files_of}
use Rattle.chart_dev.proofs.FileLemmas.{files_of-updates}
use Rattle.chart_dev.proofs.mem_shelf.put.Goals as goal

pub returns-clause-ok : goal.returns-clause-ok
returns-clause-ok c =
    let named : string_bytes c.in_ok-key.key ≡ c.args.name.now = c.in_ok-key.ensures.ok in
    files_of-updates (string_bytes c.in_ok-key.key) c.args.files.now c.insert.new.self c.args.store c.in_ok-insert.ensures.updates
    ∙ ap (λ name. insert (files_of c.args.files.now.entries) name c.args.store) named
