-- The parts made of a grid and a sheet keep the conditions of a chart.
use Rattle.chart_model.specs.Whole.{IsWellFormed}
use Rattle.chart_model.specs.declared.records.Parts.{Parts}
use Rattle.built_parts.specs.Made.{AreMade}
use Rattle.depth_grid.specs.Grid.{GridView}
use Rattle.rule_sheet.specs.Values.{IsSheet, SheetView}

-- whatever grid and sheet they are made of, made parts keep the conditions
abbrev pub MadePartsAreFormed : Type 0
MadePartsAreFormed = (g : GridView) (s : SheetView) (c : Parts) → IsSheet s → AreMade g s c → IsWellFormed c
