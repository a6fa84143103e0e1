-- Parts made of a grid and a sheet have no fault.
use Rattle.std.specs.Prelude.{◌≡◌, None}
use Rattle.chart_model.specs.Whole.{first_fault}
use Rattle.chart_model.specs.declared.records.Parts.{Parts}
use Rattle.built_parts.specs.Made.{AreMade}
use Rattle.depth_grid.specs.Grid.{GridView}
use Rattle.rule_sheet.specs.Values.{SheetView}

-- in the parts made of a grid and a sheet no number stands twice, nothing is named that isn't there, and every area closes
abbrev pub MadePartsAreFaultless : Type 0
MadePartsAreFaultless = (g : GridView) (s : SheetView) (c : Parts) → AreMade g s c → first_fault c ≡ None
