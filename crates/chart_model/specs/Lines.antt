-- What a chart's records say by their pointers: the points of an edge and the segments of an area (S-57 part 2, chain-node topology).
use Rattle.std.specs.Prelude.{ℕ, ◌++◌, eqb, cond, Option, List, map, reverse, find, flat_map, option_map, option_to_list}
use Rattle.chart_model.specs.declared.records.Connected.{Connected}
use Rattle.chart_model.specs.declared.records.Edge.{Edge}
use Rattle.chart_model.specs.declared.records.Feature.{Feature}
use Rattle.chart_model.specs.declared.records.Isolated.{Isolated}
use Rattle.chart_model.specs.declared.records.Parts.{Parts}
use Rattle.chart_model.specs.declared.records.Pointer.{Pointer}
use Rattle.plane_geom.specs.Segments.{joins, turned}
use Rattle.plane_geom.specs.declared.Point.{Point}
use Rattle.plane_geom.specs.declared.Seg.{Seg}

-- the records with a number
abbrev pub isolated_at : Parts → ℕ → Option Isolated
isolated_at c n = find (λ (k : Isolated). eqb k.rcid n) c.isolated

abbrev pub connected_at : Parts → ℕ → Option Connected
connected_at c n = find (λ (k : Connected). eqb k.rcid n) c.connected

abbrev pub edge_at : Parts → ℕ → Option Edge
edge_at c n = find (λ (e : Edge). eqb e.rcid n) c.edges

-- the position of the connected node with a number
abbrev pub node_at : Parts → ℕ → Option Point
node_at c n = option_map (λ (k : Connected). k.at) (connected_at c n)

-- the points of an edge: its first node, its inner points, its last node; and the segments that join them
abbrev pub edge_points : Parts → Edge → List Point
edge_points c e = option_to_list (node_at c e.first) ++ (e.inner ++ option_to_list (node_at c e.last))

abbrev pub edge_segments : Parts → Edge → List Seg
edge_segments c e = joins (edge_points c e)

-- the segments of the edge that a pointer names, backwards where its ORNT is 2
abbrev pub pointed : Parts → Pointer → List Seg
pointed c p =
    let segments : List Seg = flat_map (edge_segments c) (option_to_list (edge_at c p.rcid)) in
    cond (eqb p.ornt 2) (map turned (reverse segments)) segments

-- the segments of an area, pointer by pointer
abbrev pub area_segments : Parts → Feature → List Seg
area_segments c f = flat_map (pointed c) f.pointers
