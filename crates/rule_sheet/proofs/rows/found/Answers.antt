use Rattle.std.proofs.Common.{◌∙◌, ap}
use Rattle.toml.proofs.Views.{table_get}
use Rattle.toml.specs.Data.{get_member}
use Rattle.toml.specs.View.{table_view}
use Rattle.rule_sheet.proofs.rows.found.Goals as goal

pub returns-in-Some : goal.returns-in-Some
returns-in-Some c =
    let found = table_get c.get.result c.name.result.now c.args.table.now.entries c.get.ensures.value in
    (rw c.in-Some.is at found) ∙ ap (λ n. get_member n (table_view c.args.table.now)) c.name.ensures

pub returns-in-None : goal.returns-in-None
returns-in-None c =
    let found = table_get c.get.result c.name.result.now c.args.table.now.entries c.get.ensures.value in
    (rw c.in-None.is at found) ∙ ap (λ n. get_member n (table_view c.args.table.now)) c.name.ensures
