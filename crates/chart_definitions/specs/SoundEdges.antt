-- What the edges of a chart promise: each parts two areas, or is the border of one.
use Rattle.std.specs.Prelude.{◌≡◌, ◌≢◌, ◌↔◌, ℕ, ◌<◌, ◌-◌, ◌&&◌, eqb, Bool, true, false, not, cond, flat_map, length, All, AllPairs, Contains, count_by, slice_index_or}
use Rattle.mesh_definitions.specs.Faces.{OnLine, kind}
use Rattle.mesh_definitions.specs.Field.{Field}
use Rattle.mesh_definitions.specs.Pieces.{Mesh}
use Rattle.mesh_definitions.specs.declared.Piece.{Piece}
use Rattle.chart_definitions.specs.Meaning.{OnEdge}
use Rattle.chart_model.specs.Areas.{areas}
use Rattle.chart_model.specs.Lines.{edge_segments}
use Rattle.chart_model.specs.declared.records.Edge.{Edge}
use Rattle.chart_model.specs.declared.records.Feature.{Feature}
use Rattle.chart_model.specs.declared.records.Parts.{Parts}
use Rattle.chart_model.specs.declared.records.Pointer.{Pointer}
use Rattle.plane_geom.specs.Segments.{turned}
use Rattle.plane_geom.specs.declared.Point.{Point}
use Rattle.plane_geom.specs.declared.Seg.{Seg}
use Rattle.s57_codes.specs.Catalogue.{ornt_reverse, rcnm_edge}

-- whether a pointer names an edge in this direction
abbrev pub names : Bool → Edge → Pointer → Bool
names forward e p = (eqb p.rcnm rcnm_edge && eqb p.rcid e.rcid) && cond forward (not (eqb p.ornt ornt_reverse)) (eqb p.ornt ornt_reverse)

-- how often a feature's pointers name an edge, forwards or back
abbrev pub times : Bool → Edge → Feature → ℕ
times forward e f = count_by (names forward e) f.pointers

-- two segments that don't join the same points
abbrev pub DontCoincide : Seg → Seg → Type 0
DontCoincide t u = (t ≢ u) × (t ≢ turned u)

-- a segment runs along the outline of the coverage: both its ends are on one of its four sides, in the first or the last column, or in the first or the last row
pub data OnOutline (f : Field) (t : Seg) : Type 0 where
  West : t.a.x ≡ f.x 0 → t.b.x ≡ f.x 0 → OnOutline f t
  East : t.a.x ≡ f.x (f.cols - 1) → t.b.x ≡ f.x (f.cols - 1) → OnOutline f t
  North : t.a.y ≡ f.y 0 → t.b.y ≡ f.y 0 → OnOutline f t
  South : t.a.y ≡ f.y (f.rows - 1) → t.b.y ≡ f.y (f.rows - 1) → OnOutline f t

-- an edge is between two areas: the one at k names it once, forwards, and the one at j once, back; no other area names it
pub record IsBetween (c : Parts) (e : Edge) (k j : ℕ) : Type 0 where
  pub first : k < length (areas c)
  pub second : j < length (areas c)
  pub apart : k ≢ j
  pub forwards : (i : ℕ) (d : Feature) → i < length (areas c) → times true e (slice_index_or (areas c) i d) ≡ cond (eqb k i) 1 0
  pub back : (i : ℕ) (d : Feature) → i < length (areas c) → times false e (slice_index_or (areas c) i d) ≡ cond (eqb j i) 1 0

-- an edge is the border of one area: the one at k names it once, in this direction, and nothing else does
pub record IsBorderOf (c : Parts) (e : Edge) (forward : Bool) (k : ℕ) : Type 0 where
  pub first : k < length (areas c)
  pub once : (i : ℕ) (d : Feature) → i < length (areas c) → times forward e (slice_index_or (areas c) i d) ≡ cond (eqb k i) 1 0
  pub never : (i : ℕ) (d : Feature) → i < length (areas c) → times (not forward) e (slice_index_or (areas c) i d) ≡ 0

-- the areas at k and j differ in class or in block: no piece of the one is of a kind with a piece of the other
abbrev pub AreasDiffer : Mesh → (Piece → ℕ) → ℕ → ℕ → Type 0
AreasDiffer m face k j = (p q : Piece) → Contains m.pieces p → Contains m.pieces q → face p ≡ k → face q ≡ j → kind m p ≢ kind m q

-- an edge with no segment on the outline of the coverage is between two areas that differ; one that runs along the outline is the border of one area; and there are no other edges
pub data IsParted (f : Field) (m : Mesh) (face : Piece → ℕ) (c : Parts) (e : Edge) : Type 0 where
  Inner : All (λ t. ¬ (OnOutline f t)) (edge_segments c e) → (k j : ℕ) → IsBetween c e k j → AreasDiffer m face k j → IsParted f m face c e
  Border : All (OnOutline f) (edge_segments c e) → (forward : Bool) (k : ℕ) → IsBorderOf c e forward k → IsParted f m face c e

-- Each edge has a segment; one off the outline of the coverage is named by two areas alone, by each once and in opposite directions, and these differ in class or in block; one on the outline is named by one area alone, once; no segment stands in two edges or twice in one; and the points on edges are exactly those on drawn lines.
pub record HasSoundEdges (f : Field) (m : Mesh) (face : Piece → ℕ) (c : Parts) : Type 0 where
  pub some : All (λ (e : Edge). 0 < length (edge_segments c e)) c.edges
  pub sides : All (IsParted f m face c) c.edges
  pub once : AllPairs DontCoincide (flat_map (edge_segments c) c.edges)
  pub lines : (p : Point) → OnEdge c p ↔ OnLine m p
