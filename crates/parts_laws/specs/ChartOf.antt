-- When made parts are the chart of a grid and a sheet.
use Rattle.chart_definitions.specs.ChartOf.{IsChartOf}
use Rattle.chart_model.specs.declared.records.Parts.{Parts}
use Rattle.built_parts.specs.Made.{AreMade}
use Rattle.depth_grid.specs.Grid.{GridView}
use Rattle.rule_sheet.specs.Values.{IsSheet, SheetView}

-- parts of a chart that are made of a grid and a valid sheet are the chart of that grid and sheet
abbrev pub MadeIsChartOf : Type 0
MadeIsChartOf = (g : GridView) (s : SheetView) (c : Parts) → IsSheet s → AreMade g s c → IsChartOf g s c
