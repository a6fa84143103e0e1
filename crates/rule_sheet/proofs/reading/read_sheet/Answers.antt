use Rattle.toml.specs.View.{table_view}
use Rattle.rule_sheet.proofs.FaultLaws.{not-toml, stands-for, is-read}
use Rattle.rule_sheet.proofs.reading.read_sheet.Goals as goal

pub returns-clause-sheet : goal.returns-clause-sheet
returns-clause-sheet c = stands-for c.args.text.now (table_view c.in-Ok.table) c.sheet_from.result c.in-Ok.ensures.ok c.sheet_from.ensures

pub returns-clause-stands : goal.returns-clause-stands
returns-clause-stands c = λ sheet h. is-read c.args.text.now (table_view c.in-Ok.table) sheet c.sheet_from.result c.in-Ok.ensures.ok c.sheet_from.ensures h

pub returns-clause-toml : goal.returns-clause-toml
returns-clause-toml c = λ e table h. not-toml (table_view c.in-Ok.table) c.sheet_from.result c.sheet_from.ensures e

pub returns-clause-only : goal.returns-clause-only
returns-clause-only c = λ h. absurd (h (table_view c.in-Ok.table) c.in-Ok.ensures.ok)
