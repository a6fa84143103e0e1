-- What the parts of a chart made of a grid and a sheet are.
use Rattle.std.specs.Prelude.{◌≡◌, ℕ, ℤ, ◌^◌, ◌≤◌, List, length, take}
use Rattle.boundary_arcs.specs.Edges.{ArcsView, AreArcs, AreArcsOf}
use Rattle.mesh_definitions.specs.Blocks.{AreByNeed}
use Rattle.mesh_definitions.specs.Field.{IsGeneralised, field_of}
use Rattle.mesh_definitions.specs.Pieces.{whole_mesh}
use Rattle.mesh_definitions.specs.declared.Rect.{Rect}
use Rattle.chart_definitions.specs.Rest.{IsHeader}
use Rattle.chart_model.specs.declared.records.Isolated.{Isolated}
use Rattle.chart_model.specs.declared.records.Parts.{Parts}
use Rattle.built_parts.specs.Nodes.{connected_records, edge_records, isolated_records}
use Rattle.built_parts.specs.Numbered.{AreNumbered}
use Rattle.built_parts.specs.Order.{AreEnds, AreFeatures}
use Rattle.depth_grid.specs.Grid.{GridView}
use Rattle.depth_grid.specs.declared.disc.Radii.{Radii}
use Rattle.depth_grid.specs.declared.node.NodeId.{NodeId}
use Rattle.face_fill.specs.Numbered.{AreFaces, AreSound, FacesView, face_in}
use Rattle.rule_sheet.specs.Values.{SheetView}
use Rattle.shoal_buffer.specs.Charted.{ChartedView}
use Rattle.sounding_select.specs.Selection.{IsSelection}

-- isolated nodes have the soundings that are selected
pub record HaveSelectedSoundings (v : ChartedView) (levels : List ℤ) (radii : Radii) (isolated : List Isolated) : Type 0 where
  pub chosen : List NodeId
  pub selected : IsSelection v levels radii chosen
  pub are : isolated ≡ isolated_records v chosen

-- the radii are those of a sheet, and each that counts is there
pub record AreRadii (s : SheetView) (radii : Radii) : Type 0 where
  pub aspect : radii.aspect ≡ s.aspect
  pub few : radii.count ≤ length radii.radius
  pub each : take radii.count radii.radius ≡ s.sounding_radius

-- The parts of a chart made of a grid and a sheet: the header is the sheet's; isolated nodes have the selected soundings of the generalised grid; connected nodes and edges are those of its mesh over blocks by need; features are those of its blocks, faces, edges and isolated nodes, kind by kind, numbered from 1 and named by the sheet's agency. There are at most 2^20 isolated nodes and blocks and 2^31 features.
pub record AreMade (g : GridView) (s : SheetView) (c : Parts) : Type 0 where
  pub header : IsHeader s c.header
  pub view : ChartedView
  pub generalised : IsGeneralised g s.aspect s.disc_radius s.step_from s.steps view
  pub radii : Radii
  pub radii_are : AreRadii s radii
  pub isolated : HaveSelectedSoundings view s.levels radii c.isolated
  pub few_isolated : length c.isolated ≤ 2 ^ 20
  pub blocks : ℕ
  pub rect : ℕ → Rect
  pub block : ℕ → ℕ → ℕ
  pub by_need : AreByNeed (field_of view s.levels) blocks rect block
  pub few_blocks : blocks ≤ 2 ^ 20
  pub faces : FacesView
  pub faces_sound : AreSound faces
  pub faces_are : AreFaces (field_of view s.levels) block faces
  pub arcs : ArcsView
  pub arcs_keep : AreArcs arcs.nodes arcs.arcs (length faces.classes)
  pub arcs_are : AreArcsOf (whole_mesh (field_of view s.levels) block) (face_in (field_of view s.levels) faces) arcs.arcs
  pub connected : c.connected ≡ connected_records arcs.nodes
  pub edges : c.edges ≡ edge_records arcs.arcs
  pub low : ℤ
  pub high : ℤ
  pub ends : AreEnds view.charted low high
  pub features : AreFeatures s.levels s.catzoc low high faces arcs.arcs blocks (length c.isolated) c.features
  pub few_features : length c.features ≤ 2 ^ 31
  pub numbered : AreNumbered s.agency c.features
