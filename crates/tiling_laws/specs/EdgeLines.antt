-- The edges of a chart and the drawn lines of its mesh.
use Rattle.std.specs.Prelude.{◌≢◌, ◌<◌, ◌↔◌, List, length, All, Contains}
use Rattle.mesh_definitions.specs.Edges.{DrawsAll}
use Rattle.mesh_definitions.specs.Faces.{OnLine}
use Rattle.mesh_definitions.specs.Pieces.{Mesh, left_of}
use Rattle.mesh_definitions.specs.declared.Step.{Step}
use Rattle.chart_definitions.specs.Contours.{side_kind}
use Rattle.chart_definitions.specs.Edges.{HasEdges}
use Rattle.chart_definitions.specs.Meaning.{OnEdge}
use Rattle.chart_model.specs.Lines.{area_segments, edge_segments}
use Rattle.chart_model.specs.declared.records.Edge.{Edge}
use Rattle.chart_model.specs.declared.records.Feature.{Feature}
use Rattle.chart_model.specs.declared.records.Parts.{Parts}
use Rattle.plane_geom.specs.Geom.{OnSome}
use Rattle.plane_geom.specs.declared.Point.{Point}

-- the points on edges of a chart are exactly those on drawn lines of its mesh
abbrev pub EdgesAreLines : Type 0
EdgesAreLines = (m : Mesh) (traces : List (List Step)) (c : Parts) → HasEdges m traces c → (p : Point) → OnEdge c p ↔ OnLine m p

-- each edge of a chart has a segment
abbrev pub EdgesHaveSegments : Type 0
EdgesHaveSegments = (m : Mesh) (traces : List (List Step)) (c : Parts) → HasEdges m traces c → All (λ (e : Edge). 0 < length (edge_segments c e)) c.edges

-- in any chart a point on a segment of an area is on an edge
abbrev pub AreasOnEdges : Type 0
AreasOnEdges = (c : Parts) (a : Feature) (p : Point) → OnSome (area_segments c a) p → OnEdge c p

-- what lies on a step's two sides differs in class or in block, or one side is beyond the border
abbrev pub SidesDiffer : Mesh → Step → Type 0
SidesDiffer m s = side_kind m (m.right_of s) ≢ side_kind m (left_of m s)

-- along traces that draw the lines of a mesh the two sides differ in class or in block, or one is beyond the border
abbrev pub TracesPart : Type 0
TracesPart = (m : Mesh) (traces : List (List Step)) → DrawsAll m traces → (trace : List Step) (s : Step) → Contains traces trace → Contains trace s → SidesDiffer m s
