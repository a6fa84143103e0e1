-- Drawn sub-segments with the faces on their sides, and lines between numbered points that stand for them.
use Rattle.std.specs.List.{AllZip}
use Rattle.std.specs.Prelude.{◌≡◌, ◌≢◌, ℕ, ◌^◌, ◌≤◌, Some, List, length, map, option_map, slice_get, AllPairs}
use Rattle.boundary_arcs.specs.declared.net.Drawn.{Drawn}
use Rattle.chains.specs.declared.Line.{Line}
use Rattle.mesh_definitions.specs.Faces.{drawn}
use Rattle.mesh_definitions.specs.Pieces.{Mesh, ahead, left_of}
use Rattle.mesh_definitions.specs.declared.Piece.{Piece}
use Rattle.mesh_definitions.specs.declared.Sub.{Sub}
use Rattle.plane_geom.specs.declared.Point.{Point}

-- a sub-segment of a mesh: where it lies, and the faces on its sides
abbrev pub drawn_of : Mesh → (Piece → ℕ) → Sub → Drawn
drawn_of m face s = record { seg = m.ends s; left = option_map face (left_of m (ahead s)); right = option_map face (m.right_of (ahead s)) }

-- the drawn sub-segments of a mesh
abbrev pub all_drawn : Mesh → (Piece → ℕ) → List Drawn
all_drawn m face = map (drawn_of m face) (drawn m)

-- a line leads from the point of its first number to that of its second as a drawn sub-segment does, and has the same sides
pub record Shows (points : List Point) (l : Line) (d : Drawn) : Type 0 where
  pub begins : slice_get points l.begin ≡ Some d.seg.a
  pub ends : slice_get points l.end ≡ Some d.seg.b
  pub left : l.left ≡ d.left
  pub right : l.right ≡ d.right

-- a line for each drawn sub-segment, in the same order, between points that stand once each
pub record AreLinesOf (points : List Point) (lines : List Line) (subs : List Drawn) : Type 0 where
  pub each : AllZip (Shows points) lines subs
  pub once : AllPairs ◌≢◌ points
  pub few : length lines ≤ 2 ^ 27
  pub few_points : length points ≤ 2 ^ 29
