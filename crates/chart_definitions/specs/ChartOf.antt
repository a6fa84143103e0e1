-- When a chart is the chart of a grid and a sheet.
use Rattle.std.specs.Prelude.{ℕ, List}
use Rattle.mesh_definitions.specs.Blocks.{AreByNeed}
use Rattle.mesh_definitions.specs.Field.{field_of, IsGeneralised}
use Rattle.mesh_definitions.specs.Pieces.{Mesh, whole_mesh}
use Rattle.mesh_definitions.specs.declared.Piece.{Piece}
use Rattle.mesh_definitions.specs.declared.Rect.{Rect}
use Rattle.mesh_definitions.specs.declared.Step.{Step}
use Rattle.chart_definitions.specs.Areas.{HasAreas}
use Rattle.chart_definitions.specs.Contours.{HasContours}
use Rattle.chart_definitions.specs.Coverage.{HasCoverage}
use Rattle.chart_definitions.specs.Edges.{HasEdges}
use Rattle.chart_definitions.specs.Pointers.{HasPointers}
use Rattle.chart_definitions.specs.Rest.{HasTheRest}
use Rattle.chart_definitions.specs.Soundings.{HasSoundings}
use Rattle.chart_model.specs.declared.records.Parts.{Parts}
use Rattle.depth_grid.specs.Grid.{GridView}
use Rattle.rule_sheet.specs.Values.{SheetView}
use Rattle.shoal_buffer.specs.Charted.{ChartedView}

-- the mesh of a generalised grid and a sheet, with a block number for each cell
abbrev pub mesh_in : ChartedView → SheetView → (ℕ → ℕ → ℕ) → Mesh
mesh_in v s block = whole_mesh (field_of v s.levels) block

-- A chart is the chart of a grid and a sheet: the grid is generalised and rounded by the sheet, its cells are in the blocks by need, and edges, areas, coverage, contours, soundings, pointers and all else are those of its mesh. Blocks are numbered as the M_COVR stand, faces as the areas stand, and each edge has the steps that it follows.
pub record IsChartOf (g : GridView) (s : SheetView) (c : Parts) : Type 0 where
  pub view : ChartedView
  pub generalised : IsGeneralised g s.aspect s.disc_radius s.step_from s.steps view
  pub blocks : ℕ
  pub rect : ℕ → Rect
  pub block : ℕ → ℕ → ℕ
  pub by_need : AreByNeed (field_of view s.levels) blocks rect block
  pub traces : List (List Step)
  pub face : Piece → ℕ
  pub edges : HasEdges (mesh_in view s block) traces c
  pub areas : HasAreas view s.levels (mesh_in view s block) face c
  pub coverage : HasCoverage s.catzoc (mesh_in view s block) blocks c
  pub contours : HasContours s.levels (mesh_in view s block) traces c
  pub soundings : HasSoundings view s c
  pub pointers : HasPointers (mesh_in view s block) traces c
  pub rest : HasTheRest s c
