use Rattle.chart_cli.proofs.Reading.{sheet_given}
use Rattle.chart_cli.proofs.files.sheet_or_fault.Goals as goal

pub returns : goal.returns
returns c = sheet_given c.args.text.now c.read_sheet.result c.read_sheet.ensures.exact c.read_sheet.ensures.only
