-- The edges of a chart as plain values, what they keep, and when they are those of a mesh.
use Rattle.std.specs.List.{AllZip}
use Rattle.std.specs.Prelude.{◌≡◌, ◌≢◌, ℕ, ◌-◌, ◌^◌, ◌<◌, ◌≤◌, ◌++◌, ℤ, pos, ◌-ℤ◌, ◌*ℤ◌, cond, nat_eq, Option, Some, None, List, [], ◌∷◌, length, take, drop, sum_by, slice_get, slice_index_or, All, AllPairs, Contains, ◌⊎◌}
use Rattle.boundary_arcs.specs.declared.arc.Arc.{Arc}
use Rattle.boundary_arcs.specs.declared.arc.Side.TheVariants.{Outside, Face}
use Rattle.boundary_arcs.specs.declared.arc.Side.{Side}
use Rattle.mesh_definitions.specs.Edges.{IsEdge, HasSides, DrawsAll}
use Rattle.mesh_definitions.specs.Pieces.{Mesh}
use Rattle.mesh_definitions.specs.declared.Piece.{Piece}
use Rattle.mesh_definitions.specs.declared.Step.{Step}
use Rattle.plane_geom.specs.declared.Point.{Point}
use Rattle.plane_laws.specs.Borders.{total}

-- the nodes and the edges by their numbers, and how many faces there are
pub record ArcsView : Type 0 where
  pub nodes : List Point
  pub arcs : List Arc
  pub faces : ℕ

-- an edge by its number
abbrev pub arc_of : List Arc → ℕ → Arc
arc_of arcs k = slice_index_or arcs k (record { points = []; begin = 0; end = 0; left = Outside; right = Outside })

-- the points of an edge between its ends
abbrev pub inner : Arc → List Point
inner a = take (length a.points - 2) (drop 1 a.points)

-- the face on a side, none outside
abbrev pub face_on : Side → Option ℕ
face_on Outside = None
face_on (Face k) = Some k

-- 1 where a side is the face k, else 0
abbrev pub at : ℕ → Side → ℤ
at k Outside = pos 0
at k (Face x) = cond (nat_eq x k) (pos 1) (pos 0)

-- 1 where a node is p, else 0
abbrev pub here : ℕ → ℕ → ℤ
here p q = cond (nat_eq q p) (pos 1) (pos 0)

-- taken with the face k on the right, how often an edge begins at node p less how often it ends there
abbrev pub pull : ℕ → ℕ → Arc → ℤ
pull k p a = (at k a.right -ℤ at k a.left) *ℤ (here p a.begin -ℤ here p a.end)

-- an edge begins and ends at its nodes
pub record HasNodes (nodes : List Point) (a : Arc) : Type 0 where
  pub begins : a.begin < length nodes
  pub ends : a.end < length nodes
  pub first : slice_get nodes a.begin ≡ slice_get a.points 0
  pub last : slice_get nodes a.end ≡ slice_get a.points (length a.points - 1)

-- an edge has two points or more and passes none twice, but its last point may be its first
pub record IsSimple (a : Arc) : Type 0 where
  pub long : 2 ≤ length a.points
  pub but_last : AllPairs ◌≢◌ (take (length a.points - 1) a.points)
  pub but_first : AllPairs ◌≢◌ (drop 1 a.points)

-- different sides, each outside or one of so many faces
pub record HasSidesBelow (faces : ℕ) (a : Arc) : Type 0 where
  pub apart : a.left ≢ a.right
  pub left : (k : ℕ) → a.left ≡ Face k → k < faces
  pub right : (k : ℕ) → a.right ≡ Face k → k < faces

-- an edge begins or ends at a node by its number
pub record IsUsed (arcs : List Arc) (node : ℕ) : Type 0 where
  pub arc : ℕ
  pub there : arc < length arcs
  pub ends_there : ((arc_of arcs arc).begin ≡ node) ⊎ ((arc_of arcs arc).end ≡ node)

-- each node is one where an edge begins or ends; that there is one is said, and not which
abbrev pub AreUsed : List Point → List Arc → Type 0
AreUsed nodes arcs = (node : ℕ) → node < length nodes → ∥ IsUsed arcs node ∥₁

-- what all edges keep
pub record AreArcs (nodes : List Point) (arcs : List Arc) (faces : ℕ) : Type 0 where
  pub nodes_once : AllPairs ◌≢◌ nodes
  pub nodes_few : length nodes ≤ 2 ^ 28
  pub ends : All (HasNodes nodes) arcs
  pub used : AreUsed nodes arcs
  pub simple : All IsSimple arcs
  pub sides : All (HasSidesBelow faces) arcs
  pub alone : (c d : ℕ) (p : Point) → c < length arcs → d < length arcs → c ≢ d → Contains (inner (arc_of arcs c)) p → ¬ (Contains (arc_of arcs d).points p)
  pub balanced : (k p : ℕ) → total (pull k p) arcs ≡ pos 0
  pub few : sum_by (λ a. length a.points) arcs ≤ 2 ^ 28

-- an edge runs along a trace of steps of a mesh, with the same faces on its sides all along
pub record RunsAlong (m : Mesh) (face : Piece → ℕ) (a : Arc) (trace : List Step) : Type 0 where
  pub first : Point
  pub between : List Point
  pub last : Point
  pub points : a.points ≡ first ∷ (between ++ last ∷ [])
  pub edge : IsEdge m first between last trace
  pub sides : HasSides m face (face_on a.left) (face_on a.right) trace

-- the edges are those of a mesh: each drawn sub-segment stands in one of them, once
pub record AreArcsOf (m : Mesh) (face : Piece → ℕ) (arcs : List Arc) : Type 0 where
  pub traces : List (List Step)
  pub each_once : DrawsAll m traces
  pub edges : AllZip (RunsAlong m face) arcs traces
