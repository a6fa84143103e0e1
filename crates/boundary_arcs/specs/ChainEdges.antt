-- Edges that are put together from the lines of a net: a net's lines run between points by their numbers, a chain is a walk along lines.
use Rattle.std.specs.List.{AllZip}
use Rattle.std.specs.Prelude.{◌≡◌, ℕ, ◌+◌, ◌<◌, ◌≤◌, pos, min, Some, List, [], ◌∷◌, ◌++◌, length, map, take, drop, slice_get, slice_index, slice_index_or, All, ◌⊎◌}
use Rattle.boundary_arcs.specs.Edges.{face_on, IsUsed}
use Rattle.boundary_arcs.specs.declared.arc.Arc.{Arc}
use Rattle.chains.specs.Nets.{begin_of, left_of, right_of, ends_at, half_at, first_point, last_point, AreChains}
use Rattle.chains.specs.declared.Half.{Half}
use Rattle.chains.specs.declared.Line.{Line}
use Rattle.mesh_definitions.specs.Edges.{IsFirstOf}
use Rattle.plane_geom.specs.declared.Point.{Point}

-- a point by its number
abbrev pub point_at : List Point → ℕ → Point
point_at points p = slice_index_or points p (record { x = pos 0; y = pos 0 })

-- a half is one of a line of the net
abbrev pub IsHalfOf : List Line → Half → Type 0
IsHalfOf lines h = h.line < length lines

-- the faces on the sides of a line are among so many
pub record HasFacesBelow (faces : ℕ) (l : Line) : Type 0 where
  pub left : (k : ℕ) → l.left ≡ Some k → k < faces
  pub right : (k : ℕ) → l.right ≡ Some k → k < faces

-- for each point the number of line ends there, but 255 for more
pub record CountsEnds (lines : List Line) (points : ℕ) (ends : List ℕ) : Type 0 where
  pub wide : length ends ≡ points
  pub counts : (p : ℕ) → p < points → slice_index ends p ≡ min (ends_at lines p) 255

-- the half at a place of a chain begins at the least point where halves of it begin
pub record IsLeastPlace (points : List Point) (lines : List Line) (chain : List Half) (place : ℕ) : Type 0 where
  pub inside : place < length chain
  pub least : (i : ℕ) → i < length chain → IsFirstOf (point_at points (begin_of lines (half_at chain place))) (point_at points (begin_of lines (half_at chain i)))

-- a chain from a point with two line ends begins at its least point
abbrev pub BeginsLeast : List Point → List Line → List Half → Type 0
BeginsLeast points lines chain = ends_at lines (first_point lines chain) ≡ 2 → IsLeastPlace points lines chain 0

-- a chain is turned round, if at all from a point with two line ends, so that it begins at its least point
pub record IsTurn (points : List Point) (lines : List Line) (chain turned : List Half) : Type 0 where
  pub place : ℕ
  pub inside : place < length chain
  pub is : turned ≡ drop place chain ++ take place chain
  pub may : (place ≡ 0) ⊎ (ends_at lines (first_point lines chain) ≡ 2)
  pub least : BeginsLeast points lines turned

-- the points of a chain, from its first to its last
abbrev pub chain_points : List Point → List Line → List Half → List Point
chain_points points lines chain = map (λ h. point_at points (begin_of lines h)) chain ++ point_at points (last_point lines chain) ∷ []

-- an edge runs through the points of a chain and has its sides
pub record IsArcOf (points : List Point) (lines : List Line) (a : Arc) (chain : List Half) : Type 0 where
  pub runs : a.points ≡ chain_points points lines chain
  pub left : face_on a.left ≡ left_of lines (half_at chain 0)
  pub right : face_on a.right ≡ right_of lines (half_at chain 0)

-- an edge's nodes are the points where a chain begins and ends, by their numbers
pub record HasNumbers (nodes : List ℕ) (lines : List Line) (a : Arc) (chain : List Half) : Type 0 where
  pub begins : slice_get nodes a.begin ≡ Some (first_point lines chain)
  pub ends : slice_get nodes a.end ≡ Some (last_point lines chain)

-- nodes stay where they are, and up to two of so many points come to them
pub record AddsNodes (points : ℕ) (nodes nodes' : List ℕ) : Type 0 where
  pub kept : (i p : ℕ) → slice_get nodes i ≡ Some p → slice_get nodes' i ≡ Some p
  pub few : length nodes' ≤ length nodes + 2
  pub inside : All (λ p. p < points) nodes → All (λ p. p < points) nodes'

-- each node that comes new is one where an edge begins or ends
abbrev pub UsesNew : List ℕ → List ℕ → Arc → Type 0
UsesNew nodes nodes' a = (node : ℕ) → node < length nodes' → (node < length nodes) ⊎ ((a.begin ≡ node) ⊎ (a.end ≡ node))

-- each node by its number is one where one of the edges begins or ends
abbrev pub UsesEach : List ℕ → List Arc → Type 0
UsesEach nodes arcs = (node : ℕ) → node < length nodes → IsUsed arcs node

-- the edges are the chains of a net, one for one; one that begins at a point with two line ends begins at its least point
pub record AreArcsOfNet (points : List Point) (lines : List Line) (arcs : List Arc) : Type 0 where
  pub chains : List (List Half)
  pub are : AreChains lines chains
  pub least : All (BeginsLeast points lines) chains
  pub each : AllZip (IsArcOf points lines) arcs chains
