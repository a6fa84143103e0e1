-- The areas of a chart tile the coverage, from what every mesh keeps of winding numbers.
use Rattle.std.specs.Prelude.{ℕ, List}
use Rattle.mesh_definitions.specs.Field.{Field}
use Rattle.mesh_definitions.specs.Laws.{MeshLaws}
use Rattle.mesh_definitions.specs.Pieces.{Mesh}
use Rattle.mesh_definitions.specs.declared.Piece.{Piece}
use Rattle.mesh_definitions.specs.declared.Step.{Step}
use Rattle.chart_definitions.specs.Areas.{HasAreas}
use Rattle.chart_definitions.specs.Edges.{HasEdges}
use Rattle.chart_definitions.specs.Truth.{Tiles}
use Rattle.chart_model.specs.declared.records.Parts.{Parts}
use Rattle.shoal_buffer.specs.Charted.{ChartedView}

-- where a mesh keeps the laws of a field, and the edges and areas of a chart are those of the mesh, the areas tile the field's coverage
abbrev pub TilingLaw : Type 0
TilingLaw = (f : Field) (v : ChartedView) (m : Mesh) (traces : List (List Step)) (face : Piece → ℕ) (c : Parts) →
    MeshLaws f m → HasEdges m traces c → HasAreas v f.levels m face c → Tiles f v c
