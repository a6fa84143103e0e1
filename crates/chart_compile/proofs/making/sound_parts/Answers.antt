use Rattle.depth_grid.specs.Views.{grid_view}
use Rattle.rule_sheet.specs.Views.{sheet_view}
use Rattle.chart_compile.proofs.Fitted.{parts_fit}
use Rattle.chart_compile.proofs.Truthful.{chart_made}
use Rattle.chart_compile.proofs.making.sound_parts.Goals as goal

pub returns-clause-is : goal.returns-clause-is
returns-clause-is c = chart_made c.made_parts_are_the_chart.ensures.chart (grid_view c.args.grid.now) (sheet_view c.args.sheet.now) c.args.sheet.now.is_sheet c.parts_of.result c.parts_of.ensures

pub returns-clause-fits : goal.returns-clause-fits
returns-clause-fits c = parts_fit c.small_rectangles_ask_little.ensures.short c.blocks_by_need_have_short_borders.ensures.faces c.blocks_by_need_have_short_borders.ensures.outlines c.records_of_made_parts_fit.ensures.fit (grid_view c.args.grid.now) (sheet_view c.args.sheet.now) c.args.sheet.now.is_sheet c.parts_of.result c.parts_of.ensures
