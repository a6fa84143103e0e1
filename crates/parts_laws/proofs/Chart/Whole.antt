-- Made parts have each record of a chart of a grid and a sheet.
use Rattle.std.proofs.Common.{◌≤◌, length, arith}
use Rattle.mesh_definitions.specs.Faces.{borders}
use Rattle.mesh_definitions.specs.Field.{field_of}
use Rattle.mesh_definitions.specs.Mesh.{all_cells}
use Rattle.mesh_definitions.specs.Pieces.{whole_mesh}
use Rattle.chart_definitions.specs.Areas.{HasAreas}
use Rattle.chart_definitions.specs.ChartOf.{IsChartOf}
use Rattle.chart_definitions.specs.Contours.{HasContours}
use Rattle.chart_definitions.specs.Coverage.{HasCoverage}
use Rattle.chart_definitions.specs.Edges.{HasEdges}
use Rattle.chart_definitions.specs.Pointers.{HasPointers}
use Rattle.chart_model.specs.declared.records.Parts.{Parts}
use Rattle.built_parts.specs.Made.{AreMade}
use Rattle.depth_grid.specs.Grid.{GridView}
use Rattle.parts_laws.proofs.Chart.Coverage.{coverage_is, covers_ringed}
use Rattle.parts_laws.proofs.Chart.Edges.{edges_are}
use Rattle.parts_laws.proofs.Chart.Areas.{areas_are, areas_ringed}
use Rattle.parts_laws.proofs.Chart.Contours.{contours_are}
use Rattle.parts_laws.proofs.Chart.Rest.{rest_is}
use Rattle.parts_laws.proofs.Chart.Soundings.{soundings_are}
use Rattle.parts_laws.proofs.Chart.FeatureKinds.{AreKinds, sorted}
use Rattle.parts_laws.proofs.Chart.Named.{face_of, mesh_of}
use Rattle.parts_laws.proofs.Chart.Used.{AreUsed}
use Rattle.mesh_laws.specs.FaceLaws.{DrawnParts}
use Rattle.mesh_laws.specs.PieceLaws.{PiecesOnce}
use Rattle.plane_laws.specs.Borders.{HasPieces}
use Rattle.rule_sheet.specs.Values.{IsSheet, SheetView}

module _ (once : PiecesOnce) (parts_apart : DrawnParts) (g : GridView) (s : SheetView) (c : Parts) (made : AreMade g s c) where
  kinds : AreKinds s.levels s.catzoc made.low made.high made.faces made.arcs.arcs made.blocks (length c.isolated) c
  kinds = sorted s.levels s.catzoc made.low made.high made.faces made.arcs.arcs made.blocks (length c.isolated) c made.features

  pieces : HasPieces (borders (whole_mesh (field_of made.view s.levels) made.block)) (whole_mesh (field_of made.view s.levels) made.block).pieces
  pieces = once (field_of made.view s.levels) (all_cells (field_of made.view s.levels)) made.block

  pub contours_of : HasContours s.levels (mesh_of made) made.arcs_are.traces c
  contours_of = contours_are (field_of made.view s.levels) made.block made.faces made.faces_are pieces made.arcs.nodes made.arcs.arcs made.arcs_keep made.arcs_are c made.connected made.edges s.levels kinds.contours

  pub areas_of : HasAreas made.view s.levels (mesh_of made) (face_of made) c
  areas_of = areas_are made.view s.levels made.block made.faces made.faces_are pieces parts_apart made.arcs.nodes made.arcs.arcs made.arcs_keep made.arcs_are c made.connected made.edges made.low made.high made.ends kinds.face_rings kinds.faces_ringed kinds.grounds

  pub coverage_of : IsSheet s → HasCoverage s.catzoc (mesh_of made) made.blocks c
  coverage_of sheet = coverage_is (field_of made.view s.levels) made.block made.faces made.faces_are pieces made.arcs.nodes made.arcs.arcs made.arcs_keep made.arcs_are c made.connected made.edges made.blocks kinds.block_rings kinds.blocks_ringed kinds.covers s.catzoc
      (λ zone e. let small = (sheet.catzoc zone e).1 in omega (arith, small)) kinds.qualities

  pub pointers_of : HasPointers (mesh_of made) made.arcs_are.traces c
  pointers_of = record {
    areas = areas_ringed made.view s.levels made.block made.faces made.faces_are pieces parts_apart made.arcs.nodes made.arcs.arcs made.arcs_keep made.arcs_are c made.connected made.edges made.low made.high made.ends kinds.face_rings kinds.faces_ringed kinds.grounds;
    covers = covers_ringed (field_of made.view s.levels) made.block made.faces made.faces_are pieces made.arcs.nodes made.arcs.arcs made.arcs_keep made.arcs_are c made.connected made.edges made.blocks kinds.block_rings kinds.blocks_ringed kinds.covers;
  }

  pub edges_of : AreUsed made.arcs.nodes made.arcs.arcs → HasEdges (mesh_of made) made.arcs_are.traces c
  edges_of used = edges_are (mesh_of made) (face_of made) made.arcs.nodes made.arcs.arcs (length made.faces.classes) made.arcs_keep made.arcs_are used c made.connected made.edges

  -- made parts are the chart of the grid and the sheet, where each node is used and each radius that counts is there
  pub chart_of : IsSheet s → AreUsed made.arcs.nodes made.arcs.arcs → made.radii.count ≤ length made.radii.radius → IsChartOf g s c
  chart_of sheet used few = record {
    view = made.view;
    generalised = made.generalised;
    blocks = made.blocks;
    rect = made.rect;
    block = made.block;
    by_need = made.by_need;
    traces = made.arcs_are.traces;
    face = face_of made;
    edges = edges_of used;
    areas = areas_of;
    coverage = coverage_of sheet;
    contours = contours_of;
    soundings = soundings_are g s c sheet made few;
    pointers = pointers_of;
    rest = rest_is g s c made;
  }
