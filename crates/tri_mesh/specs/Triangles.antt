-- What lies at the corners of a triangle.
use Rattle.std.specs.Prelude.{◌≡◌, ℕ, ◌≤◌, length, min, max, List, [], ◌∷◌, map}
use Rattle.mesh_definitions.specs.Field.{Field, band_at}
use Rattle.mesh_definitions.specs.Mesh.{corners}
use Rattle.mesh_definitions.specs.Pieces.{least_band, greatest_band}
use Rattle.mesh_definitions.specs.declared.Piece.{Piece}
use Rattle.mesh_definitions.specs.declared.Tri.{Tri}
use Rattle.tri_mesh.specs.declared.corners.Corners.{Corners}

-- what stands for the corners, one after another
abbrev pub each_corner : {X : Type 0} → Corners X → List X
each_corner k = k.first ∷ k.second ∷ k.third ∷ []

-- the bands of a triangle's corners, and the least and the greatest of them
pub record AreBands (f : Field) (t : Tri) (bands : Corners ℕ) : Type 0 where
  pub each : each_corner bands ≡ map (band_at f) (corners t)
  pub small_first : bands.first ≤ length f.levels
  pub small_second : bands.second ≤ length f.levels
  pub small_third : bands.third ≤ length f.levels
  pub least : min (min bands.first bands.second) bands.third ≡ least_band f t
  pub greatest : max (max bands.first bands.second) bands.third ≡ greatest_band f t

abbrev pub piece_of : Tri → ℕ → Piece
piece_of t b = record { tri = t; band = b }
