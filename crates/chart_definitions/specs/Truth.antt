-- What a chart of a grid and a sheet promises to the one who reads it.
use Rattle.std.specs.Prelude.{◌≡◌, ◌⊎◌, ℕ, ℤ, pos, ◌<◌, ◌*◌, ◌*ℤ◌, ◌≤ℤ◌, length, flat_map, All, Contains, FitsSigned, slice_index_or}
use Rattle.std.specs.Int.{w32}
use Rattle.mesh_definitions.specs.Field.{Field, InCoverage, field_of, point}
use Rattle.mesh_definitions.specs.Ground.{IsGround}
use Rattle.mesh_definitions.specs.declared.Class.{Class}
use Rattle.chart_definitions.specs.Areas.{IsAreaOf, IsDepthArea, IsUnsurveyedArea}
use Rattle.chart_definitions.specs.ChartOf.{IsChartOf, mesh_in}
use Rattle.chart_definitions.specs.Meaning.{OnEdge}
use Rattle.chart_definitions.specs.SoundEdges.{HasSoundEdges}
use Rattle.chart_definitions.specs.Soundings.{HasSoundings}
use Rattle.chart_model.specs.Areas.{IsInside, areas}
use Rattle.chart_model.specs.Lines.{area_segments}
use Rattle.chart_model.specs.Tally.{soundings_of}
use Rattle.chart_model.specs.declared.records.Feature.{Feature}
use Rattle.chart_model.specs.declared.records.Parts.{Parts}
use Rattle.chart_model.specs.declared.records.Sounding.{Sounding}
use Rattle.depth_grid.specs.Grid.{GridView, IsGrid}
use Rattle.depth_grid.specs.declared.node.NodeId.{NodeId}
use Rattle.plane_geom.specs.Geom.{OnSome}
use Rattle.plane_geom.specs.declared.Point.{Point}
use Rattle.rule_sheet.specs.Values.{SheetView, IsSheet}
use Rattle.shoal_buffer.specs.Charted.{ChartedView}
use Rattle.shoal_buffer.specs.Opening.{HasDepth}

-- p is inside exactly one area, which has the kind and range of the one class of the ground at p
pub record IsPlaced (f : Field) (v : ChartedView) (c : Parts) (p : Point) : Type 0 where
  pub at : ℕ
  pub there : at < length (areas c)
  pub inside : (d : Feature) → IsInside c (slice_index_or (areas c) at d) p
  pub alone : (k : ℕ) (d : Feature) → k < length (areas c) → IsInside c (slice_index_or (areas c) k d) p → k ≡ at
  pub class : Class
  pub real : IsGround f p class
  pub one_class : (K : Class) → IsGround f p K → K ≡ class
  pub tells : (d : Feature) → IsAreaOf v f.levels class (slice_index_or (areas c) at d)

-- The areas tile the coverage: each point of it that is on no edge is placed in one area, and a point beyond it is on no edge and inside no area.
pub record Tiles (f : Field) (v : ChartedView) (c : Parts) : Type 0 where
  pub placed : (p : Point) → InCoverage f p → ¬ (OnEdge c p) → IsPlaced f v c p
  pub no_edge : (p : Point) → ¬ (InCoverage f p) → ¬ (OnEdge c p)
  pub no_area : (p : Point) (a : Feature) → ¬ (InCoverage f p) → Contains (areas c) a → ¬ (IsInside c a p)

-- a node of a grid that has the depth d, in millimetres
pub record IsSource (g : GridView) (n : NodeId) (d : ℤ) : Type 0 where
  pub row_in : n.row < length g.ys
  pub col_in : n.col < length g.xs
  pub depth : HasDepth g n.row n.col d

-- no depth area that has a node with data inside it or on one of its segments tells more water than the node has
abbrev pub NoDeeperArea : GridView → Field → Parts → Type 0
NoDeeperArea g f c = (n : NodeId) (d : ℤ) (a : Feature) (low high : ℤ) → IsSource g n d → Contains (areas c) a → IsDepthArea low high a → FitsSigned w32 low →
    OnSome (area_segments c a) (point f n) ⊎ IsInside c a (point f n) → (pos 100 *ℤ low) ≤ℤ d

-- a sounding stands at a node with data and is no deeper
pub record IsNoDeeper (g : GridView) (f : Field) (z : Sounding) : Type 0 where
  pub node : NodeId
  pub found : ℤ
  pub source : IsSource g node found
  pub stands : z.at ≡ point f node
  pub no_deeper : (pos 100 *ℤ z.depth) ≤ℤ found

-- an area of group 1 is a depth area or an unsurveyed area
abbrev pub IsDepthOrUnsurveyed : Feature → Type 0
IsDepthOrUnsurveyed a = ((low : ℤ) × (high : ℤ) × IsDepthArea low high a) ⊎ IsUnsurveyedArea a

-- The chart tells the truth about a grid generalised by a sheet: each point of the coverage is on an edge or inside exactly one depth or unsurveyed area, which has its kind and range, and nothing lies outside; the soundings are those defined; and no depth area or sounding at a node is deeper than the node.
pub record TellsTheTruth (g : GridView) (s : SheetView) (v : ChartedView) (c : Parts) : Type 0 where
  pub areas_only : All IsDepthOrUnsurveyed (areas c)
  pub tiles : Tiles (field_of v s.levels) v c
  pub soundings : HasSoundings v s c
  pub sounding_depths : All (IsNoDeeper g (field_of v s.levels)) (flat_map soundings_of c.isolated)
  pub area_depths : NoDeeperArea g (field_of v s.levels) c

-- the chart of a grid and a sheet tells the truth, and its edges are sound
abbrev pub TruthLaw : Type 0
TruthLaw = (g : GridView) (s : SheetView) (c : Parts) → IsGrid g → IsSheet s → (is : IsChartOf g s c) →
    TellsTheTruth g s is.view c × HasSoundEdges (field_of is.view s.levels) (mesh_in is.view s is.block) is.face c
