use Rattle.depth_grid.specs.Views.{grid_view}
use Rattle.rule_sheet.specs.Views.{sheet_view}
use Rattle.chart_compile.proofs.Truthful.{cell_made, is_grid}
use Rattle.chart_compile.proofs.making.compile.Goals as goal

pub returns : goal.returns
returns c = record {
  cell = cell_made c.fields_are_sound.ensures.sound c.truth_law.ensures.from_fields c.areas_begin_with_exteriors.ensures.begins c.answers_agree.ensures c.cell_laws.ensures (grid_view c.args.grid.now) (sheet_view c.args.sheet.now) (is_grid c.args.grid.now) c.args.sheet.now.is_sheet c.in_ok-parts.parts c.in_ok-parts.ensures.is c.in_ok-parts.ensures.fits
      c.cell_of.result c.cell_of.ensures.whole c.cell_of.ensures.sized c.cell_of.ensures.cell c.cell_of.ensures.tally;
}
