-- What a chart says, beside the segments of its edges and areas: its features of one kind, and the points on its edges.
use Rattle.std.specs.Prelude.{ℕ, eqb, List, filter, Contains}
use Rattle.chart_model.specs.Lines.{edge_segments}
use Rattle.chart_model.specs.declared.records.Edge.{Edge}
use Rattle.chart_model.specs.declared.records.Feature.{Feature}
use Rattle.chart_model.specs.declared.records.Parts.{Parts}
use Rattle.plane_geom.specs.Geom.{OnSome}
use Rattle.plane_geom.specs.declared.Point.{Point}

-- the features with one object code, in their order
abbrev pub of_code : ℕ → Parts → List Feature
of_code code c = filter (λ (f : Feature). eqb f.objl code) c.features

-- p lies on a closed segment of an edge of the chart
pub record OnEdge (c : Parts) (p : Point) : Type 0 where
  pub edge : Edge
  pub there : Contains c.edges edge
  pub on : OnSome (edge_segments c edge) p
