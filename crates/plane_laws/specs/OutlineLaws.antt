-- Laws of outlines: convex ones, lines that separate a point from an outline, and rectangles.
use Rattle.std.specs.Prelude.{◌≡◌, ℤ, pos, ◌≤ℤ◌, ◌<ℤ◌, int_le, int_lt, ◌&&◌, cond, List, All, Contains}
use Rattle.plane_geom.specs.Geom.{cross_of, winding_number}
use Rattle.plane_geom.specs.declared.Point.{Point}
use Rattle.plane_geom.specs.declared.Seg.{Seg}
use Rattle.plane_laws.specs.Outlines.{outline, IsConvex, rectangle}

-- a convex outline that is walked clockwise never counts below 0
abbrev pub ConvexNeverNegative : Type 0
ConvexNeverNegative = (vs : List Point) (p : Point) → IsConvex vs → pos 0 ≤ℤ winding_number (outline vs) p

-- it counts 0 at a point that lies left of one of its segments
abbrev pub ConvexBeyondSegment : Type 0
ConvexBeyondSegment = (vs : List Point) (p : Point) (s : Seg) → IsConvex vs → Contains (outline vs) s → pos 0 <ℤ cross_of s.a s.b p → winding_number (outline vs) p ≡ pos 0

-- any outline counts 0 at a point left of a line that has no corner on its left
abbrev pub ApartFromLeft : Type 0
ApartFromLeft = (vs : List Point) (p a b : Point) → pos 0 <ℤ cross_of a b p → All (λ w. cross_of a b w ≤ℤ pos 0) vs → winding_number (outline vs) p ≡ pos 0

-- any outline counts 0 at a point on or left of a line that has all corners on its right
abbrev pub ApartOnLine : Type 0
ApartOnLine = (vs : List Point) (p a b : Point) → pos 0 ≤ℤ cross_of a b p → All (λ w. cross_of a b w <ℤ pos 0) vs → winding_number (outline vs) p ≡ pos 0

-- a rectangle that is walked clockwise counts 1 at the points from its western and southern sides to its eastern and northern ones, these left out, and 0 at all others
abbrev pub RectangleCount : Type 0
RectangleCount = (west south east north : ℤ) (p : Point) → west ≤ℤ east → south ≤ℤ north →
    winding_number (outline (rectangle west south east north)) p ≡ cond ((int_le west p.x && int_lt p.x east) && (int_le south p.y && int_lt p.y north)) (pos 1) (pos 0)
