-- The pointers of an area of a chart begin with an exterior ring.
use Rattle.std.specs.Prelude.{ℕ, pos, ◌<ℤ◌, All, take}
use Rattle.mesh_definitions.specs.Rings.{IsRing, area_sum}
use Rattle.chart_definitions.specs.ChartOf.{IsChartOf}
use Rattle.chart_definitions.specs.Pointers.{run_along}
use Rattle.chart_model.specs.Areas.{areas}
use Rattle.chart_model.specs.declared.records.Feature.{Feature}
use Rattle.chart_model.specs.declared.records.Parts.{Parts}
use Rattle.depth_grid.specs.Grid.{GridView, IsGrid}
use Rattle.rule_sheet.specs.Values.{IsSheet, SheetView}

-- some first pointers of a feature have segments that form one closed ring, which passes no point twice and has a positive area sum
pub record BeginsWithExterior (c : Parts) (f : Feature) : Type 0 where
  pub count : ℕ
  pub ring : IsRing (run_along c (take count f.pointers))
  pub clockwise : pos 0 <ℤ area_sum (run_along c (take count f.pointers))

-- each area of group 1 of the chart of a grid and a sheet begins so
abbrev pub AreasBeginWithExteriors : Type 0
AreasBeginWithExteriors = (g : GridView) (s : SheetView) (c : Parts) → IsGrid g → IsSheet s → IsChartOf g s c → All (BeginsWithExterior c) (areas c)
