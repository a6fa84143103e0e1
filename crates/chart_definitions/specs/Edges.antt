-- The edges and connected nodes of a chart of a mesh.
use Rattle.std.specs.List.{AllZip}
use Rattle.std.specs.Prelude.{◌≡◌, ◌≢◌, ◌↔◌, ◌⊎◌, List, Some, map, zip, AllPairs, Contains}
use Rattle.mesh_definitions.specs.Edges.{DrawsAll, IsEdge, IsJunction}
use Rattle.mesh_definitions.specs.Pieces.{Mesh}
use Rattle.mesh_definitions.specs.declared.Step.{Step}
use Rattle.chart_model.specs.Lines.{node_at}
use Rattle.chart_model.specs.declared.records.Connected.{Connected}
use Rattle.chart_model.specs.declared.records.Edge.{Edge}
use Rattle.chart_model.specs.declared.records.Parts.{Parts}
use Rattle.plane_geom.specs.declared.Point.{Point}

-- an edge of the chart runs along a trace of steps, from the node that it names first to the one that it names last
pub record FollowsTrace (m : Mesh) (c : Parts) (e : Edge) (trace : List Step) : Type 0 where
  pub first : Point
  pub begins : node_at c e.first ≡ Some first
  pub last : Point
  pub ends : node_at c e.last ≡ Some last
  pub along : IsEdge m first e.inner last trace

-- an edge begins and ends at p
pub record IsClosedAt (c : Parts) (p : Point) : Type 0 where
  pub edge : Edge
  pub there : Contains c.edges edge
  pub begins : node_at c edge.first ≡ Some p
  pub ends : node_at c edge.last ≡ Some p

-- where the connected nodes stand, in their order
abbrev pub node_points : Parts → List Point
node_points c = map (λ (k : Connected). k.at) c.connected

-- The edges are the chains of drawn sub-segments between junctions, each drawn sub-segment in one of them and once, and the connected nodes are the junctions and the points where closed chains begin, each once. `traces` gives the steps of each edge.
pub record HasEdges (m : Mesh) (traces : List (List Step)) (c : Parts) : Type 0 where
  pub each_once : DrawsAll m traces
  pub edges : AllZip (FollowsTrace m c) c.edges traces
  pub nodes : (p : Point) → Contains (node_points c) p ↔ (IsJunction m p ⊎ IsClosedAt c p)
  pub nodes_once : AllPairs ◌≢◌ (node_points c)

-- each edge with its trace
abbrev pub traced : Parts → List (List Step) → List (Edge × List Step)
traced c traces = zip c.edges traces
