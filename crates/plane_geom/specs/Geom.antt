-- Where a point lies: on a segment, and how often the segments pass its height east of it.
use Rattle.std.specs.Prelude.{◌≡◌, ℤ, pos, negsuc, ◌+ℤ◌, ◌-ℤ◌, ◌*ℤ◌, int_lt, int_le, Bool, false, cond, IsTrue, ◌&&◌, ◌||◌, not, fold, List, Contains}
use Rattle.plane_geom.specs.declared.Point.{Point}
use Rattle.plane_geom.specs.declared.Seg.{Seg}

-- twice the area of the triangle o, a, b: positive where it runs anticlockwise
abbrev pub cross_of : Point → Point → Point → ℤ
cross_of o a b = (a.x -ℤ o.x) *ℤ (b.y -ℤ o.y) -ℤ (a.y -ℤ o.y) *ℤ (b.x -ℤ o.x)

abbrev pub is_between : ℤ → ℤ → ℤ → Bool
is_between a b c = cond (int_le a b) (int_le a c && int_le c b) (int_le b c && int_le c a)

-- p lies on the closed segment s
pub record IsOn (s : Seg) (p : Point) : Type 0 where
  pub line : cross_of s.a s.b p ≡ pos 0
  pub wide : IsTrue (is_between s.a.x s.b.x p.x)
  pub high : IsTrue (is_between s.a.y s.b.y p.y)

-- p lies on one of the closed segments
pub record OnSome (segs : List Seg) (p : Point) : Type 0 where
  pub segment : Seg
  pub there : Contains segs segment
  pub on : IsOn segment p

abbrev pub xor : Bool → Bool → Bool
xor a b = cond a (not b) b

-- s runs down past p's height, east of p
abbrev pub falls_east : Seg → Point → Bool
falls_east s p = int_le s.b.y p.y && int_lt p.y s.a.y && int_lt (cross_of p s.a s.b) (pos 0)

-- s runs up past p's height, east of p
abbrev pub rises_east : Seg → Point → Bool
rises_east s p = int_le s.a.y p.y && int_lt p.y s.b.y && int_lt (pos 0) (cross_of p s.a s.b)

-- 1 where s runs down past p's height east of p, -1 where it runs up
abbrev pub turn_of : Seg → Point → ℤ
turn_of s p = cond (falls_east s p) (pos 1) (cond (rises_east s p) (negsuc 0) (pos 0))

-- the winding number of a list of segments
abbrev pub winding_number : List Seg → Point → ℤ
winding_number segs p = fold (λ t s. t +ℤ turn_of s p) (pos 0) segs

-- whether s passes p's height east of p
abbrev pub passes : Seg → Point → Bool
passes s p = falls_east s p || rises_east s p

-- whether an odd number of the segments passes p's height east of p
abbrev pub odd_of : List Seg → Point → Bool
odd_of segs p = fold (λ t s. xor t (passes s p)) false segs
