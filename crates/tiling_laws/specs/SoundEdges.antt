-- The edges of a chart of a mesh are sound.
use Rattle.std.specs.Prelude.{◌≡◌, ◌≢◌, ◌⊎◌, ◌↔◌, ℕ, ℤ, ◌<◌, true, false, cond, eqb, Option, None, List, All, AllPairs, Contains, flat_map, length, slice_index_or}
use Rattle.mesh_definitions.specs.Faces.{borders}
use Rattle.mesh_definitions.specs.Field.{Field}
use Rattle.mesh_definitions.specs.Pieces.{Mesh, left_of}
use Rattle.mesh_definitions.specs.declared.Piece.{Piece}
use Rattle.mesh_definitions.specs.declared.Step.{Step}
use Rattle.mesh_definitions.specs.declared.Sub.{Sub}
use Rattle.chart_definitions.specs.Areas.{HasAreas}
use Rattle.chart_definitions.specs.Edges.{HasEdges, traced}
use Rattle.chart_definitions.specs.Pointers.{HasPointers}
use Rattle.chart_definitions.specs.SoundEdges.{DontCoincide, IsParted, OnOutline, times}
use Rattle.chart_definitions.specs.Meaning.{OnEdge}
use Rattle.chart_model.specs.Areas.{areas}
use Rattle.chart_model.specs.Lines.{area_segments, edge_segments}
use Rattle.chart_model.specs.Numbers.{edge_numbers}
use Rattle.chart_model.specs.declared.records.Edge.{Edge}
use Rattle.chart_model.specs.declared.records.Feature.{Feature}
use Rattle.chart_model.specs.declared.records.Parts.{Parts}
use Rattle.plane_geom.specs.Geom.{OnSome}
use Rattle.plane_geom.specs.declared.Point.{Point}
use Rattle.plane_laws.specs.Borders.{HasPieces, within}
use Rattle.shoal_buffer.specs.Charted.{ChartedView}

-- What a mesh keeps of where its sub-segments lie: each joins two different points, and no two of them join the same two.
pub record LineLaws (m : Mesh) : Type 0 where
  pub long : All (λ (u : Sub). (m.ends u).a ≢ (m.ends u).b) m.subs
  pub apart : AllPairs (λ (u w : Sub). DontCoincide (m.ends u) (m.ends w)) m.subs

-- where a mesh does, no segment stands in two edges of a chart, and none twice in one
abbrev pub SegmentsOnce : Type 0
SegmentsOnce = (m : Mesh) (traces : List (List Step)) (c : Parts) → LineLaws m → HasEdges m traces c → AllPairs DontCoincide (flat_map (edge_segments c) c.edges)

-- 1 for the area of the piece on a side, 0 for every other area and where there is no piece
abbrev pub once_at : (Piece → ℕ) → ℕ → Option Piece → ℕ
once_at face k side = cond (within (λ q. eqb (face q) k) side) 1 0

-- the area on an edge's right names it once, forwards, and the area on its left once, back; no other area names it
pub record IsNamed (m : Mesh) (face : Piece → ℕ) (c : Parts) (e : Edge) (s : Step) : Type 0 where
  pub forwards : (k : ℕ) (d : Feature) → k < length (areas c) → times true e (slice_index_or (areas c) k d) ≡ once_at face k (m.right_of s)
  pub back : (k : ℕ) (d : Feature) → k < length (areas c) → times false e (slice_index_or (areas c) k d) ≡ once_at face k (left_of m s)

-- and each edge is named by the areas on its two sides alone, where the areas, their pointers and the numbers of the edges are as in a chart of the mesh
abbrev pub NamedBySides : Type 0
NamedBySides = (v : ChartedView) (levels : List ℤ) (m : Mesh) (traces : List (List Step)) (face : Piece → ℕ) (c : Parts) →
    HasPieces (borders m) m.pieces → LineLaws m → HasEdges m traces c → HasAreas v levels m face c → HasPointers m traces c → AllPairs ◌≢◌ (edge_numbers c) →
    (e : Edge) (trace : List Step) (s : Step) → Contains (traced c traces) (e, trace) → Contains trace s → IsNamed m face c e s

-- each point on an edge is on a segment of an area: so a point is on an edge exactly where it is on an area
abbrev pub EdgesOnAreas : Type 0
EdgesOnAreas = (v : ChartedView) (levels : List ℤ) (m : Mesh) (traces : List (List Step)) (face : Piece → ℕ) (c : Parts) →
    HasPieces (borders m) m.pieces → HasEdges m traces c → HasAreas v levels m face c → (p : Point) → OnEdge c p → (a : Feature) × Contains (areas c) a × OnSome (area_segments c a) p

-- What a mesh keeps of the outline of a field's coverage: a step has nothing on one of its sides exactly where it runs along the outline.
abbrev pub OutlineLaw : Field → Mesh → Type 0
OutlineLaw f m = (s : Step) → Contains m.subs s.sub → ((m.right_of s ≡ None) ⊎ (left_of m s ≡ None)) ↔ OnOutline f (m.ends s.sub)

-- so, where a mesh does, each edge off the outline parts two areas that differ, and each edge on it is the border of one area
abbrev pub EdgesPartAreas : Type 0
EdgesPartAreas = (f : Field) (v : ChartedView) (levels : List ℤ) (m : Mesh) (traces : List (List Step)) (face : Piece → ℕ) (c : Parts) →
    HasPieces (borders m) m.pieces → LineLaws m → OutlineLaw f m → HasEdges m traces c → HasAreas v levels m face c → HasPointers m traces c → AllPairs ◌≢◌ (edge_numbers c) →
    All (IsParted f m face c) c.edges
