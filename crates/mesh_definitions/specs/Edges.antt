-- The edges of a chart: chains of drawn sub-segments between junctions.
use Rattle.std.specs.Prelude.{◌≡◌, ◌⊎◌, ◌++◌, ℕ, ◌<◌, ◌≤◌, int_le, int_lt, ◌&&◌, ◌||◌, Bool, IsTrue, Option, List, [], ◌∷◌, All, map, count_by, length, IsPermutation, flat_map, option_map}
use Rattle.mesh_definitions.specs.Faces.{drawn}
use Rattle.mesh_definitions.specs.Pieces.{Mesh, ahead, back, left_of, walked}
use Rattle.mesh_definitions.specs.declared.Piece.{Piece}
use Rattle.mesh_definitions.specs.declared.Step.{Step}
use Rattle.plane_geom.specs.Segments.{joins}
use Rattle.plane_geom.specs.declared.Point.{Point}

abbrev pub same_point : Point → Point → Bool
same_point p q = (int_le p.x q.x && int_le q.x p.x) && (int_le p.y q.y && int_le q.y p.y)

-- the drawn sub-segments, each walked both ways
abbrev pub drawn_steps : Mesh → List Step
drawn_steps m = map ahead (drawn m) ++ map back (map ahead (drawn m))

-- how many drawn sub-segments end at a point
abbrev pub lines_at : Mesh → Point → ℕ
lines_at m p = count_by (λ s. same_point (walked m s).a p) (drawn_steps m)

-- three or more drawn sub-segments end there
abbrev pub IsJunction : Mesh → Point → Type 0
IsJunction m p = 3 ≤ lines_at m p

-- q does not come before p by x and then y
abbrev pub IsFirstOf : Point → Point → Type 0
IsFirstOf p q = IsTrue (int_lt p.x q.x || (int_le p.x q.x && int_le p.y q.y))

-- An edge: a walk along a trace of steps, through a first point, those between, and a last one. It leads from junction to junction with none between; or it is closed, has no junction between, and begins at its least point.
pub record IsEdge (m : Mesh) (first : Point) (inner : List Point) (last : Point) (trace : List Step) : Type 0 where
  pub some : 0 < length trace
  pub follows : joins (first ∷ (inner ++ last ∷ [])) ≡ map (walked m) trace
  pub no_junction : All (λ p. ¬ (IsJunction m p)) inner
  pub ends : (IsJunction m first × IsJunction m last) ⊎ ((first ≡ last) × All (IsFirstOf first) inner)

-- the same piece-by-piece number lies on the right all along a trace, and one lies on the left; none beyond the border
pub record HasSides (m : Mesh) (face : Piece → ℕ) (left right : Option ℕ) (trace : List Step) : Type 0 where
  pub rights : All (λ s. option_map face (m.right_of s) ≡ right) trace
  pub lefts : All (λ s. option_map face (left_of m s) ≡ left) trace

-- each drawn sub-segment stands in one of the traces, once, and nothing else does
abbrev pub DrawsAll : Mesh → List (List Step) → Type 0
DrawsAll m traces = IsPermutation (drawn m) (map (λ s. s.sub) (flat_map (λ t. t) traces))
