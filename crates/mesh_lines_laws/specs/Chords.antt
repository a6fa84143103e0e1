-- The chords of a triangle of a field.
use Rattle.std.specs.Prelude.{◌≢◌, ℕ, pos, ◌<◌, ◌<ℤ◌, Contains}
use Rattle.mesh_definitions.specs.Field.{Field, IsField}
use Rattle.mesh_definitions.specs.Mesh.{all_cells, tris}
use Rattle.mesh_definitions.specs.Pieces.{chord_ends, chord_levels}
use Rattle.mesh_definitions.specs.declared.Tri.{Tri}
use Rattle.plane_geom.specs.Geom.{cross_of, IsOn}
use Rattle.plane_geom.specs.declared.Point.{Point}

-- the chord of a deeper level in a triangle of a field lies strictly on the deep side of that of a shoaler one
abbrev pub ChordsNest : Type 0
ChordsNest = (f : Field) (t : Tri) (k j : ℕ) (p : Point) → IsField f → Contains (tris (all_cells f)) t → Contains (chord_levels f t) k → Contains (chord_levels f t) j → k < j →
    IsOn (chord_ends f t j) p → cross_of (chord_ends f t k).a (chord_ends f t k).b p <ℤ pos 0

-- so the chords of two levels in one triangle share no point, not even an end
abbrev pub ChordsApart : Type 0
ChordsApart = (f : Field) (t : Tri) (k j : ℕ) (p : Point) → IsField f → Contains (tris (all_cells f)) t → Contains (chord_levels f t) k → Contains (chord_levels f t) j → k ≢ j →
    IsOn (chord_ends f t k) p → IsOn (chord_ends f t j) p → ⊥
