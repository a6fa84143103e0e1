-- What the chart of the overview of a grid promises at the nodes of the fine grid. A node beyond the last row or column of the overview lies outside the chart, so what is said of each node of the fine grid is said of those that the overview covers.
use Rattle.std.specs.Prelude.{◌≡◌, ◌≢◌, ◌⊎◌, ℕ, ℤ, pos, ◌<◌, ◌*ℤ◌, ◌≤ℤ◌, Option, Some, None, length, flat_map, All, Contains, FitsSigned}
use Rattle.std.specs.Int.{w32}
use Rattle.chart_definitions.specs.Areas.{IsDepthArea}
use Rattle.chart_definitions.specs.ChartOf.{IsChartOf}
use Rattle.chart_definitions.specs.Truth.{IsSource}
use Rattle.chart_model.specs.Areas.{IsInside, areas}
use Rattle.chart_model.specs.Lines.{area_segments}
use Rattle.chart_model.specs.Tally.{soundings_of}
use Rattle.chart_model.specs.declared.records.Feature.{Feature}
use Rattle.chart_model.specs.declared.records.Parts.{Parts}
use Rattle.chart_model.specs.declared.records.Sounding.{Sounding}
use Rattle.depth_grid.specs.Grid.{GridView, IsGrid, depth_at, place}
use Rattle.depth_grid.specs.declared.node.NodeId.{NodeId}
use Rattle.overview_grid.specs.Laws.{IsFactor}
use Rattle.overview_grid.specs.Overview.{IsOverview, StandsBeside}
use Rattle.plane_geom.specs.Geom.{OnSome}
use Rattle.plane_geom.specs.declared.Point.{Point}
use Rattle.rule_sheet.specs.Values.{SheetView, IsSheet}
use Rattle.s57_codes.specs.Catalogue.{objl_depare}

-- where a node of a grid stands
abbrev pub node_point : GridView → NodeId → Point
node_point g n = record { x = place g.xs n.col; y = place g.ys n.row }

-- an area has a point inside it or on one of its segments
abbrev pub HasPoint : Parts → Feature → Point → Type 0
HasPoint c a p = OnSome (area_segments c a) p ⊎ IsInside c a p

-- no depth area that has a node with data tells more water than the node has
abbrev pub NoDeeperThanNodes : GridView → Parts → Type 0
NoDeeperThanNodes fine c = (n : NodeId) (d : ℤ) (a : Feature) (low high : ℤ) → IsSource fine n d → Contains (areas c) a → IsDepthArea low high a → FitsSigned w32 low →
    HasPoint c a (node_point fine n) → (pos 100 *ℤ low) ≤ℤ d

-- a node of a grid that has no data
pub record IsGap (g : GridView) (n : NodeId) : Type 0 where
  pub row_in : n.row < length g.ys
  pub col_in : n.col < length g.xs
  pub none : depth_at g n.row n.col ≡ None

-- no depth area has a node without data
abbrev pub NoDepthAtGaps : GridView → Parts → Type 0
NoDepthAtGaps fine c = (n : NodeId) (a : Feature) → IsGap fine n → Contains (areas c) a → HasPoint c a (node_point fine n) → a.objl ≢ objl_depare

-- a sounding stands at a node with data, all nodes of whose neighbourhood have data, and is no deeper than any of them
pub record IsShoalestBeside (fine : GridView) (factor : ℕ) (z : Sounding) : Type 0 where
  pub node : NodeId
  pub found : ℤ
  pub source : IsSource fine node found
  pub stands : z.at ≡ node_point fine node
  pub no_deeper : (d : Option ℤ) → StandsBeside fine factor node.row node.col d → (x : ℤ) × (d ≡ Some x) × ((pos 100 *ℤ z.depth) ≤ℤ x)

-- a chart states no more water than a fine grid of which it shows an overview by a factor
pub record StaysShoal (fine : GridView) (factor : ℕ) (c : Parts) : Type 0 where
  pub nodes : NoDeeperThanNodes fine c
  pub gaps : NoDepthAtGaps fine c
  pub soundings : All (IsShoalestBeside fine factor) (flat_map soundings_of c.isolated)

-- the chart of the overview of a grid and a sheet does
abbrev pub OverviewsStayShoal : Type 0
OverviewsStayShoal = (fine coarse : GridView) (factor : ℕ) (s : SheetView) (c : Parts) → IsGrid fine → IsSheet s → IsFactor fine factor → IsOverview fine factor coarse → IsChartOf coarse s c → StaysShoal fine factor c
