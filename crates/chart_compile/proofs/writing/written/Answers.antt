use Rattle.cell_writer.proofs.Fitting.{measured}
use Rattle.chart_compile.proofs.writing.written.Goals as goal

pub tally-tally-requires : goal.tally-tally-requires
tally-tally-requires c = measured c.args.chart.now c.requires.fits
