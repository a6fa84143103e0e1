-- What makes a chart tell the truth: the laws of its mesh, and nothing else.
use Rattle.std.specs.Prelude.{ℕ}
use Rattle.mesh_definitions.specs.Field.{Field, IsField, IsGeneralised, field_of}
use Rattle.mesh_definitions.specs.Laws.{MeshLaws}
use Rattle.mesh_definitions.specs.Pieces.{Mesh, whole_mesh}
use Rattle.chart_definitions.specs.ChartOf.{IsChartOf, mesh_in}
use Rattle.chart_definitions.specs.SoundEdges.{HasSoundEdges}
use Rattle.depth_grid.specs.Grid.{IsGrid, GridView}
use Rattle.chart_definitions.specs.Truth.{TellsTheTruth, TruthLaw}
use Rattle.chart_model.specs.declared.records.Parts.{Parts}
use Rattle.tiling_laws.specs.Depths.{NodeLaws}
use Rattle.tiling_laws.specs.SoundEdges.{LineLaws, OutlineLaw}
use Rattle.rule_sheet.specs.Values.{SheetView, IsSheet}
use Rattle.shoal_buffer.specs.Charted.{ChartedView}

-- all that a chart asks of its mesh: the laws of counts, those at nodes, and those of where lines run and where the outline does
pub record IsSound (f : Field) (m : Mesh) : Type 0 where
  pub counts : MeshLaws f m
  pub nodes : NodeLaws f m
  pub lines : LineLaws m
  pub outline : OutlineLaw f m

-- where the mesh of a chart of a grid and a sheet keeps these laws, the chart tells the truth and its edges are sound
abbrev pub TruthFromMesh : Type 0
TruthFromMesh = (g : GridView) (s : SheetView) (c : Parts) → IsSheet s → (is : IsChartOf g s c) → IsSound (field_of is.view s.levels) (mesh_in is.view s is.block) →
    TellsTheTruth g s is.view c × HasSoundEdges (field_of is.view s.levels) (mesh_in is.view s is.block) is.face c

-- the field of a grid that is generalised, with the levels of a sheet, keeps what fields keep
abbrev pub GridsHaveFields : Type 0
GridsHaveFields = (g : GridView) (s : SheetView) (v : ChartedView) → IsGrid g → IsSheet s → IsGeneralised g s.aspect s.disc_radius s.step_from s.steps v → IsField (field_of v s.levels)

-- so where the mesh of each field keeps the laws, whatever its blocks, the chart of each grid and sheet tells the truth
abbrev pub TruthFromFields : Type 0
TruthFromFields = ((f : Field) (block : ℕ → ℕ → ℕ) → IsField f → IsSound f (whole_mesh f block)) → TruthLaw
