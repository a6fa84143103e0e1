-- What is promised of the cell of an overview beyond what is promised of every cell: it states no more water than the fine grid does.
use Rattle.std.specs.Prelude.{◌≡◌, ℕ, List, Option, Some, Ok}
use Rattle.std.specs.FinMap.{get}
use Rattle.chart_compile.specs.Cell.{IsCellOf}
use Rattle.chart_dev.specs.Contents.{Contents}
use Rattle.chart_model.specs.declared.counts.Tally.{Tally}
use Rattle.depth_grid.specs.Grid.{GridView}
use Rattle.overview_grid.specs.Coarse.{coarse_grid}
use Rattle.overview_laws.specs.StaysShoal.{StaysShoal}
use Rattle.rule_sheet.specs.Values.{SheetView}
use Rattle.chart_cli.specs.declared.status.Status.{Status}
use Rattle.chart_cli.specs.declared.status.Status.TheVariants.{Done}
use Rattle.chart_cli.specs.Reads.{sources_in}
use Rattle.chart_cli.specs.Words.{Command, Sources, make, overview}

-- Files give a fine grid and a sheet. Afterwards a name holds the bytes of the cell of the grid's overview by a factor and the sheet, and the chart that these stand for states no more water than the fine grid at any of its nodes.
pub record HoldsOverview (names : Sources) (factor : ℕ) (name : List ℕ) (before after : Contents) : Type 0 where
  pub fine : GridView
  pub sheet : SheetView
  pub sources : sources_in (get before names.sheet) (get before names.grid) ≡ Ok (record { grid = fine; sheet = sheet })
  pub bytes : List ℕ
  pub held : get after name ≡ Some bytes
  pub tally : Tally
  pub is_cell : IsCellOf (coarse_grid fine factor) sheet bytes tally
  pub stays_shoal : StaysShoal fine factor is_cell.chart

-- this is so where words ask for an overview, it is done, and the files are told
abbrev pub OverviewStaysShoal : Option Command → Status → Option Contents → Option Contents → Type 0
OverviewStaysShoal (Some (make (overview names factor) name)) Done (Some before) (Some after) = HoldsOverview names factor name before after
OverviewStaysShoal _ _ _ _ = Unit {0}
