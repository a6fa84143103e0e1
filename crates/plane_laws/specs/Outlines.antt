-- Points along a line in equal steps, closed walks through corners, and convex outlines.
use Rattle.std.specs.Prelude.{ℤ, pos, ◌+ℤ◌, ◌-ℤ◌, ◌*ℤ◌, neg_ℤ, ◌≤ℤ◌, List, [], ◌∷◌, ◌++◌, All}
use Rattle.plane_geom.specs.Geom.{cross_of, IsOn}
use Rattle.plane_geom.specs.Segments.{joins}
use Rattle.plane_geom.specs.declared.Point.{Point}
use Rattle.plane_geom.specs.declared.Seg.{Seg}

-- a step in the plane, so far east and so far north
pub record Vector : Type 0 where
  pub x : ℤ
  pub y : ℤ

-- twice the area between two steps: positive where the second turns left of the first
abbrev pub turning : Vector → Vector → ℤ
turning e g = e.x *ℤ g.y -ℤ e.y *ℤ g.x

-- the same step back
abbrev pub opposite : Vector → Vector
opposite e = record { x = neg_ℤ e.x; y = neg_ℤ e.y }

-- the point that lies t times the step e from w
abbrev pub at : Point → Vector → ℤ → Point
at w e t = record { x = w.x +ℤ t *ℤ e.x; y = w.y +ℤ t *ℤ e.y }

-- the segment from a to b
abbrev pub seg : Point → Point → Seg
seg a b = record { a = a; b = b }

-- the walk from corner to corner and back to the first
abbrev pub outline : List Point → List Seg
outline [] = []
outline (v ∷ vs) = joins (v ∷ (vs ++ v ∷ []))

-- no point lies left of the segment's line
abbrev pub NoneLeft : List Point → Seg → Type 0
NoneLeft ws s = All (λ w. cross_of s.a s.b w ≤ℤ pos 0) ws

-- an outline that is convex and walked clockwise: no corner lies left of one of its segments
abbrev pub IsConvex : List Point → Type 0
IsConvex vs = All (NoneLeft vs) (outline vs)

-- the corners of an upright rectangle, clockwise from the north-west
abbrev pub rectangle : ℤ → ℤ → ℤ → ℤ → List Point
rectangle west south east north = at west north ∷ at east north ∷ at east south ∷ at west south ∷ []
  where
    at : ℤ → ℤ → Point
    at x y = record { x = x; y = y }

-- points on the segment from a to b, in order from a
abbrev pub IsAlong : Point → List Point → Point → Type 0
IsAlong a [] b = Unit {0}
IsAlong a (q ∷ qs) b = IsOn (seg a b) q × IsAlong q qs b

-- numbers from a to b that never fall
abbrev pub Rises : ℤ → List ℤ → ℤ → Type 0
Rises a [] b = a ≤ℤ b
Rises a (t ∷ ts) b = (a ≤ℤ t) × Rises t ts b
