-- On which side of a chord the corners of its triangle lie.
use Rattle.std.specs.Prelude.{ℕ, ◌+◌, ◌<◌, ◌≤◌, pos, ◌<ℤ◌, Contains}
use Rattle.mesh_definitions.specs.Field.{Field, IsField, point, band_at}
use Rattle.mesh_definitions.specs.Mesh.{corners}
use Rattle.mesh_definitions.specs.Pieces.{chord_ends, least_band, greatest_band}
use Rattle.mesh_definitions.specs.declared.Tri.{Tri}
use Rattle.depth_grid.specs.declared.node.NodeId.{NodeId}
use Rattle.plane_geom.specs.Geom.{cross_of}
use Rattle.plane_geom.specs.declared.Point.{Point}

-- a node that reaches level k lies strictly right of the line from a to b, any other strictly left of it
abbrev pub IsParted : Field → ℕ → Point → Point → NodeId → Type 0
IsParted f k a b n = (k ≤ band_at f n → cross_of a b (point f n) <ℤ pos 0) × (band_at f n < k → pos 0 <ℤ cross_of a b (point f n))

-- a chord parts the corners of its triangle: the deep side lies on its right
abbrev pub DeepOnRight : Type 0
DeepOnRight = (f : Field) (t : Tri) (k : ℕ) (n : NodeId) → IsField f → t.row + 1 < f.rows → t.col + 1 < f.cols → least_band f t < k → k ≤ greatest_band f t → Contains (corners t) n → IsParted f k (chord_ends f t k).a (chord_ends f t k).b n
