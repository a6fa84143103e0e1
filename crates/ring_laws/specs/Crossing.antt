-- What the winding number of a closed list of segments changes by along a path of two legs that crosses one segment at its middle.
use Rattle.std.specs.Prelude.{◌≡◌, ℤ, pos, ◌+ℤ◌, ◌-ℤ◌, ◌<ℤ◌, IsTrue, List, All}
use Rattle.plane_geom.specs.Geom.{cross_of, winding_number}
use Rattle.plane_geom.specs.Segments.{turned}
use Rattle.plane_geom.specs.declared.Point.{Point}
use Rattle.plane_geom.specs.declared.Seg.{Seg}
use Rattle.plane_laws.specs.Borders.{total}
use Rattle.plane_laws.specs.Outlines.{seg}
use Rattle.plane_strips.specs.Legs.{are_apart}

-- a list is closed: each value of points falls by nothing along all of it
abbrev pub IsBalanced : List Seg → Type 0
IsBalanced segs = (h : Point → ℤ) → total (λ s. h s.a -ℤ h s.b) segs ≡ pos 0

-- m is the middle of u, p lies strictly right of it and q strictly left
pub record Crosses (p m q : Point) (u : Seg) : Type 0 where
  pub wide : m.x +ℤ m.x ≡ u.a.x +ℤ u.b.x
  pub high : m.y +ℤ m.y ≡ u.a.y +ℤ u.b.y
  pub right : cross_of u.a u.b p <ℤ pos 0
  pub left : pos 0 <ℤ cross_of u.a u.b q

-- 1 for the segment u itself, -1 for it the other way round, 0 for one that lies apart from both legs
pub data Weighs (p m q : Point) (u : Seg) : Seg → ℤ → Type 0 where
  Ahead : Weighs p m q u u (pos 1)
  Back : Weighs p m q u (turned u) (pos 0 -ℤ pos 1)
  Apart : {s : Seg} → IsTrue (are_apart (seg p m) s) → IsTrue (are_apart (seg m q) s) → Weighs p m q u s (pos 0)

abbrev pub ChangesByCrossings : Type 0
ChangesByCrossings = (segs : List Seg) (p m q : Point) (u : Seg) (weight : Seg → ℤ) → IsBalanced segs → Crosses p m q u → All (λ s. Weighs p m q u s (weight s)) segs →
    winding_number segs p -ℤ winding_number segs q ≡ total weight segs
