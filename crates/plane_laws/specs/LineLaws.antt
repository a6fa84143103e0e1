-- Laws of the sides of a line.
use Rattle.std.specs.Prelude.{◌≡◌, ℤ, ◌+ℤ◌, ◌-ℤ◌, ◌*ℤ◌, neg_ℤ}
use Rattle.plane_geom.specs.Geom.{cross_of, IsOn}
use Rattle.plane_geom.specs.Segments.{turned}
use Rattle.plane_geom.specs.declared.Point.{Point}
use Rattle.plane_geom.specs.declared.Seg.{Seg}
use Rattle.plane_laws.specs.Outlines.{Vector, at}

-- the sides of a line change places where it is taken the other way round
abbrev pub SideBack : Type 0
SideBack = (a b c : Point) → cross_of b a c ≡ neg_ℤ (cross_of a b c)

-- three points lie alike from whichever they begin
abbrev pub SideRound : Type 0
SideRound = (a b c : Point) → cross_of b c a ≡ cross_of a b c

-- along equal steps the side of a line changes evenly: at u of n steps it is n − u parts of the first and u parts of the last
abbrev pub SideChangesEvenly : Type 0
SideChangesEvenly = (a b w : Point) (e : Vector) (u n : ℤ) → n *ℤ cross_of a b (at w e u) ≡ (n -ℤ u) *ℤ cross_of a b w +ℤ u *ℤ cross_of a b (at w e n)

-- a segment the other way round has the same points
abbrev pub OnTurned : Type 0
OnTurned = (s : Seg) (p : Point) → IsOn s p → IsOn (turned s) p
