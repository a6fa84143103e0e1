-- What the pieces of the mesh of a field count at rational points.
use Rattle.std.specs.Prelude.{ℕ, ℤ, pos, ◌≤ℤ◌, Bool, true, map, Contains}
use Rattle.mesh_counts_laws.specs.Counts.{IsSingle}
use Rattle.mesh_definitions.specs.Faces.{boundary}
use Rattle.mesh_definitions.specs.Field.{Field, IsField}
use Rattle.mesh_definitions.specs.Pieces.{Mesh, same_piece, walked, whole_mesh}
use Rattle.mesh_definitions.specs.declared.Piece.{Piece}
use Rattle.mesh_definitions.specs.declared.Step.{Step}
use Rattle.plane_geom.specs.Geom.{winding_number}
use Rattle.plane_geom.specs.declared.Seg.{Seg}
use Rattle.plane_strips.specs.Rational.{RationalPoint, magnified, place}

-- where a step lies in a mesh that is multiplied by w
abbrev pub placed : ℤ → Mesh → Step → Seg
placed w m s = magnified w (walked m s)

-- the winding number at a rational point of the directed boundary of a set of pieces: that of the boundary, multiplied by the point's w, at its place
abbrev pub count_at : Mesh → RationalPoint → (Piece → Bool) → ℤ
count_at m q F = winding_number (map (placed q.w m) (boundary m F)) (place q)

-- no piece of the mesh of a field counts below 0 at a rational point
abbrev pub NoneBelowAt : Type 0
NoneBelowAt = (f : Field) (block : ℕ → ℕ → ℕ) → IsField f → (q : RationalPoint) (p : Piece) → Contains (whole_mesh f block).pieces p → pos 0 ≤ℤ count_at (whole_mesh f block) q (same_piece p)

-- and the outline of all pieces counts 0 or 1 there
abbrev pub OutlineSingleAt : Type 0
OutlineSingleAt = (f : Field) (block : ℕ → ℕ → ℕ) → IsField f → (q : RationalPoint) → IsSingle (count_at (whole_mesh f block) q (λ p. true))
