-- The chart of a grid and a sheet passes the check of cells.
use Rattle.std.specs.Prelude.{◌≡◌, ◌⊎◌, ◌<◌, ◌≤◌, IsTrue, length}
use Rattle.cell_check.specs.Outlines.{all_segments, area_outlines, cover_outlines, lines}
use Rattle.cell_check.specs.Verdicts.{CrossedIn, IsVerdict, NoStrip, WrongIn}
use Rattle.cell_check.specs.declared.verdict.Verdict.TheVariants.{Tiles, TooMany}
use Rattle.cell_check.specs.declared.verdict.Verdict.{Verdict}
use Rattle.chart_definitions.specs.ChartOf.{IsChartOf}
use Rattle.chart_model.specs.Areas.{areas}
use Rattle.chart_model.specs.declared.records.Parts.{Parts}
use Rattle.depth_grid.specs.Grid.{GridView, IsGrid}
use Rattle.plane_strips.specs.Rational.{RationalPoint, odd_at}
use Rattle.plane_strips.specs.Tilings.{is_right}
use Rattle.rule_sheet.specs.Values.{IsSheet, SheetView}

-- at every rational point, on lines too, one area counts where some cover does, and none where none does
abbrev pub IsRightEverywhere : Parts → Type 0
IsRightEverywhere c = (q : RationalPoint) → IsTrue (is_right (λ segs. odd_at segs q) (area_outlines c) (cover_outlines c))

abbrev pub ChartsAreRight : Type 0
ChartsAreRight = (g : GridView) (s : SheetView) (c : Parts) → IsGrid g → IsSheet s → IsChartOf g s c → IsRightEverywhere c

-- so no strip of a chart has a wrong point
abbrev pub ChartsHaveNoWrong : Type 0
ChartsHaveNoWrong = (g : GridView) (s : SheetView) (c : Parts) → IsGrid g → IsSheet s → IsChartOf g s c → NoStrip (lines c) (WrongIn c)

-- no strip of a chart is crossed
abbrev pub ChartsAreUncrossed : Type 0
ChartsAreUncrossed = (g : GridView) (s : SheetView) (c : Parts) → IsGrid g → IsSheet s → IsChartOf g s c → NoStrip (lines c) (CrossedIn c)

-- A cell passes: it has the verdict that its areas tile what its covers cover, with their number, unless it has over a million segments; then it has the verdict that these are too many, with theirs. And it has no other verdict.
pub record Passes (c : Parts) : Type 0 where
  pub tiles : length (all_segments c) ≤ 1000000 → IsVerdict c (Tiles (length (areas c)))
  pub too_many : 1000000 < length (all_segments c) → IsVerdict c (TooMany (length (all_segments c)))
  pub only : (v : Verdict) → IsVerdict c v → (v ≡ Tiles (length (areas c))) ⊎ (v ≡ TooMany (length (all_segments c)))

-- the chart of each grid and sheet does
abbrev pub ChartsPass : Type 0
ChartsPass = (g : GridView) (s : SheetView) (c : Parts) → IsGrid g → IsSheet s → IsChartOf g s c → Passes c
