-- Laws of the pieces of a triangle and of the sides of its chords.
use Rattle.std.specs.Prelude.{◌≡◌, ℤ, pos, ◌-ℤ◌, ◌*ℤ◌, ◌≤ℤ◌, reverse}
use Rattle.plane_geom.specs.Geom.{cross_of}
use Rattle.plane_geom.specs.declared.Point.{Point}
use Rattle.plane_laws.specs.Outlines.{Vector, opposite, turning, at, IsConvex}
use Rattle.plane_laws.specs.Pieces.{corner_piece, middle_piece, HasMiddle}

-- what lies between two chords of a corner is convex, walked clockwise, for any slots that don't fall; the second leg turns right of the first, so where it turns left their names are exchanged
abbrev pub CornerPieceIsConvex : Type 0
CornerPieceIsConvex = (w : Point) (e g : Vector) (p p' s s' : ℤ) → turning e g ≤ℤ pos 0 →
    pos 0 ≤ℤ p → p ≤ℤ p' → pos 0 ≤ℤ s → s ≤ℤ s' → IsConvex (corner_piece w e g p p' s s')

-- what lies between a chord of each outer corner is convex, walked clockwise: by the middle corner first where the leg to the far corner turns right of the one to the middle corner
abbrev pub MiddlePieceIsConvex : Type 0
MiddlePieceIsConvex = (w : Point) (e g d : Vector) (n k l p q t s : ℤ) → HasMiddle w e g d n k l p q t s →
    turning e g ≤ℤ pos 0 → IsConvex (middle_piece w e g d n p q t s)

-- and the other way round where it turns left
abbrev pub MiddlePieceIsConvexBack : Type 0
MiddlePieceIsConvexBack = (w : Point) (e g d : Vector) (n k l p q t s : ℤ) → HasMiddle w e g d n k l p q t s →
    pos 0 ≤ℤ turning e g → IsConvex (reverse (middle_piece w e g d n p q t s))

-- a point of a leg of n steps, counted from the leg's other end
abbrev pub LegFromOtherEnd : Type 0
LegFromOtherEnd = (w : Point) (e : Vector) (n t : ℤ) → at (at w e n) (opposite e) (n -ℤ t) ≡ at w e t

-- the side of the chord from f on one leg to r on the other, at t on the first leg: the order of f and t, times r, times one sign for the corner
abbrev pub ChordSideOnFirstLeg : Type 0
ChordSideOnFirstLeg = (w : Point) (e g : Vector) (f r t : ℤ) → cross_of (at w e f) (at w g r) (at w e t) ≡ ((f -ℤ t) *ℤ r) *ℤ turning e g

-- at t on the second leg: the order of r and t, times f, times the same sign
abbrev pub ChordSideOnSecondLeg : Type 0
ChordSideOnSecondLeg = (w : Point) (e g : Vector) (f r t : ℤ) → cross_of (at w e f) (at w g r) (at w g t) ≡ ((r -ℤ t) *ℤ f) *ℤ turning e g

-- at any point p of the first leg, t / d steps of e from the corner: the order of f · d and t, whichever leg the chord comes from
abbrev pub ChordSideAtPoint : Type 0
ChordSideAtPoint = (w : Point) (e g : Vector) (p : Point) (f r d t : ℤ) → d *ℤ (p.x -ℤ w.x) ≡ t *ℤ e.x → d *ℤ (p.y -ℤ w.y) ≡ t *ℤ e.y →
    d *ℤ cross_of (at w e f) (at w g r) p ≡ ((f *ℤ d -ℤ t) *ℤ r) *ℤ turning e g
