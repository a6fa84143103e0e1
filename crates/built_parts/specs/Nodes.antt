-- The records of nodes and edges of a chart.
use Rattle.std.specs.List.{range_with_len}
use Rattle.std.specs.Prelude.{ℕ, ◌+◌, ◌*◌, ◌/◌, ◌<◌, pos, List, drop, length, map, slice_index_or, take}
use Rattle.boundary_arcs.specs.Edges.{arc_of, inner}
use Rattle.boundary_arcs.specs.declared.arc.Arc.{Arc}
use Rattle.chart_model.specs.declared.records.Connected.{Connected}
use Rattle.chart_model.specs.declared.records.Edge.{Edge}
use Rattle.chart_model.specs.declared.records.Isolated.{Isolated}
use Rattle.chart_model.specs.declared.records.Shape.TheVariants.{Soundings}
use Rattle.chart_model.specs.declared.records.Sounding.{Sounding}
use Rattle.depth_grid.specs.Grid.{place}
use Rattle.depth_grid.specs.declared.node.NodeId.{NodeId}
use Rattle.plane_geom.specs.declared.Point.{Point}
use Rattle.shoal_buffer.specs.Charted.{ChartedView}
use Rattle.sounding_select.specs.Selection.{charted_depth}

-- a node of the grid
pub record IsNodeIn (v : ChartedView) (n : NodeId) : Type 0 where
  pub row : n.row < length v.grid.ys
  pub col : n.col < length v.grid.xs

-- the sounding of a node: where it stands, with its charted depth
abbrev pub sounding_of : ChartedView → NodeId → Sounding
sounding_of v n = record { at = record { x = place v.grid.xs n.col; y = place v.grid.ys n.row }; depth = charted_depth v n }

-- the isolated node with a number that has the soundings of these nodes
abbrev pub isolated_record : ChartedView → ℕ → List NodeId → Isolated
isolated_record v number nodes = record { rcid = number; rver = 1; shape = Soundings (map (sounding_of v) nodes) }

-- the nodes in the record at a place, 2,000 a record
abbrev pub nodes_in : List NodeId → ℕ → List NodeId
nodes_in nodes place = take 2000 (drop (2000 * place) nodes)

-- the isolated nodes for the soundings of these nodes, numbered from 1
abbrev pub isolated_records : ChartedView → List NodeId → List Isolated
isolated_records v nodes = map (λ place. isolated_record v (place + 1) (nodes_in nodes place)) (range_with_len 0 ((length nodes + 1999) / 2000))

-- the connected node at a place
abbrev pub connected_record : List Point → ℕ → Connected
connected_record nodes k = record { rcid = k + 1; rver = 1; at = slice_index_or nodes k (record { x = pos 0; y = pos 0 }) }

-- the connected nodes at these points, numbered from 1
abbrev pub connected_records : List Point → List Connected
connected_records nodes = map (connected_record nodes) (range_with_len 0 (length nodes))

-- the edge at a place, between connected nodes that are numbered from 1
abbrev pub edge_record : List Arc → ℕ → Edge
edge_record arcs k = record { rcid = k + 1; rver = 1; first = (arc_of arcs k).begin + 1; last = (arc_of arcs k).end + 1; inner = inner (arc_of arcs k) }

-- the edges, numbered from 1
abbrev pub edge_records : List Arc → List Edge
edge_records arcs = map (edge_record arcs) (range_with_len 0 (length arcs))
