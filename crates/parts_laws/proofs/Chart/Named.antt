-- The mesh that parts are made of, and the numbers of its faces.
use Rattle.std.proofs.Common.{ℕ}
use Rattle.mesh_definitions.specs.Field.{field_of}
use Rattle.mesh_definitions.specs.Pieces.{Mesh}
use Rattle.mesh_definitions.specs.declared.Piece.{Piece}
use Rattle.chart_definitions.specs.ChartOf.{mesh_in}
use Rattle.chart_model.specs.declared.records.Parts.{Parts}
use Rattle.built_parts.specs.Made.{AreMade}
use Rattle.depth_grid.specs.Grid.{GridView}
use Rattle.face_fill.specs.Numbered.{face_in}
use Rattle.rule_sheet.specs.Values.{SheetView}

abbrev pub mesh_of : {g : GridView} {s : SheetView} {c : Parts} → AreMade g s c → Mesh
mesh_of {s = s} made = mesh_in made.view s made.block

abbrev pub face_of : {g : GridView} {s : SheetView} {c : Parts} → AreMade g s c → Piece → ℕ
face_of {s = s} made = face_in (field_of made.view s.levels) made.faces
