-- The class of the ground at a point.
use Rattle.std.specs.Prelude.{◌≡◌, ℕ, pos, ◌+◌, ◌≤ℤ◌, true, false, List, All, map, count_by, int_lt, Contains}
use Rattle.mesh_definitions.specs.Field.{Field, point}
use Rattle.mesh_definitions.specs.Mesh.{from, to, legs, surveyed, all_cells, tris}
use Rattle.mesh_definitions.specs.Pieces.{chord_ends, chord_levels, least_band}
use Rattle.mesh_definitions.specs.declared.Class.TheVariants.{Unsurveyed, Band}
use Rattle.mesh_definitions.specs.declared.Class.{Class}
use Rattle.mesh_definitions.specs.declared.Tri.{Tri}
use Rattle.plane_geom.specs.Geom.{cross_of, IsOn}
use Rattle.plane_geom.specs.declared.Point.{Point}
use Rattle.plane_geom.specs.declared.Seg.{Seg}

-- a triangle's outline, walked clockwise, and its chords
abbrev pub outline : Field → Tri → List Seg
outline f t = map (λ w. let s : Seg = record { a = point f (from w); b = point f (to w) } in s) (legs t)

abbrev pub chords : Field → Tri → List Seg
chords f t = map (chord_ends f t) (chord_levels f t)

-- p lies in the closed triangle: strictly left of none of its legs
abbrev pub IsInTri : Field → Tri → Point → Type 0
IsInTri f t p = All (λ s. cross_of s.a s.b p ≤ℤ pos 0) (outline f t)

-- the number of a triangle's chords that have p strictly on their deep side
abbrev pub deep_chords : Field → Tri → Point → ℕ
deep_chords f t p = count_by (λ s. int_lt (cross_of s.a s.b p) (pos 0)) (chords f t)

-- the class that a closed triangle gives to a point of it: an unsurveyed one to each, a surveyed one to those on none of its chords
pub data Gives (f : Field) (t : Tri) (p : Point) : Class → Type 0 where
  Open : surveyed f t ≡ false → Gives f t p Unsurveyed
  Deep : surveyed f t ≡ true → All (λ s. ¬ (IsOn s p)) (chords f t) → Gives f t p (Band (least_band f t + deep_chords f t p))

-- the ground at p is of class K: some closed triangle that has p gives K
pub record IsGround (f : Field) (p : Point) (K : Class) : Type 0 where
  pub tri : Tri
  pub there : Contains (tris (all_cells f)) tri
  pub has : IsInTri f tri p
  pub gives : Gives f tri p K
