use Rattle.std.proofs.Common.{◌∙◌, sym, ap}
use Rattle.std.specs.Option.{is_some}
use Rattle.cell_writer.specs.Sizes.{size_of}
use Rattle.cell_writer.proofs.Fitting.{fits_by_size, measured}
use Rattle.cell_writer.proofs.writing.fits.Goals as goal

pub returns-clause-fits : goal.returns-clause-fits
returns-clause-fits c = c.is_some.ensures ∙ ap is_some (c.cell_size.ensures ∙ ap size_of c.parts.ensures.same) ∙ fits_by_size c.args.chart.now

pub returns-clause-measured : goal.returns-clause-measured
returns-clause-measured c = λ h. measured c.args.chart.now (sym (c.is_some.ensures ∙ ap is_some (c.cell_size.ensures ∙ ap size_of c.parts.ensures.same) ∙ fits_by_size c.args.chart.now) ∙ h)
