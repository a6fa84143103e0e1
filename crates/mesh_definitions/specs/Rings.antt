-- Rings: closed walks that pass no point twice.
use Rattle.std.specs.Prelude.{◌≡◌, ◌≢◌, ℤ, pos, ◌+ℤ◌, ◌-ℤ◌, ◌*ℤ◌, int_lt, Bool, ◌<◌, ◌++◌, List, map, take, drop, length, flat_map, All, AllPairs, IsPermutation}
use Rattle.mesh_definitions.specs.Faces.{boundary}
use Rattle.mesh_definitions.specs.Pieces.{Mesh, walked}
use Rattle.mesh_definitions.specs.declared.Piece.{Piece}
use Rattle.plane_geom.specs.declared.Point.{Point}
use Rattle.plane_geom.specs.declared.Seg.{Seg}
use Rattle.plane_laws.specs.Borders.{total}

-- the points where segments begin
abbrev pub begins : List Seg → List Point
begins segs = map (λ (s : Seg). s.a) segs

-- segments that run head to tail and back to where they began, and pass no point twice
pub record IsRing (segs : List Seg) : Type 0 where
  pub some : 0 < length segs
  pub closed : map (λ (s : Seg). s.b) segs ≡ drop 1 (begins segs) ++ take 1 (begins segs)
  pub simple : AllPairs ◌≢◌ (begins segs)

-- twice the area within a ring: positive where it runs clockwise
abbrev pub area_sum : List Seg → ℤ
area_sum segs = total (λ (s : Seg). (s.b.x -ℤ s.a.x) *ℤ (s.b.y +ℤ s.a.y)) segs

-- a ring is exterior where its area sum is positive, else interior
abbrev pub is_exterior : List Seg → Bool
is_exterior segs = int_lt (pos 0) (area_sum segs)

-- rings that have the boundary of a set of pieces as their segments, each once
pub record AreRingsOf (m : Mesh) (F : Piece → Bool) (rings : List (List Seg)) : Type 0 where
  pub each_once : IsPermutation (map (walked m) (boundary m F)) (flat_map (λ ring. ring) rings)
  pub closed : All IsRing rings
