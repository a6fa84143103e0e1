-- Laws of winding numbers: of lists and walks, of segments that are cut, and of their parity.
use Rattle.std.specs.Prelude.{◌≡◌, ℤ, pos, ◌+ℤ◌, ◌-ℤ◌, ◌*ℤ◌, neg_ℤ, ◌≤ℤ◌, ◌<ℤ◌, ◌⊎◌, ◌↔◌, IsTrue, IsFalse, List, [], ◌∷◌, ◌++◌, map, reverse, IsPermutation}
use Rattle.plane_geom.specs.Geom.{turn_of, winding_number, odd_of, passes, IsOn}
use Rattle.plane_geom.specs.Segments.{joins, turned}
use Rattle.plane_geom.specs.declared.Point.{Point}
use Rattle.plane_geom.specs.declared.Seg.{Seg}
use Rattle.plane_laws.specs.Borders.{total}
use Rattle.plane_laws.specs.Outlines.{Vector, at, seg, IsAlong, Rises}

-- the winding number of a list of segments is the sum of their turns
abbrev pub CountIsSum : Type 0
CountIsSum = (segs : List Seg) (p : Point) → winding_number segs p ≡ total (λ s. turn_of s p) segs

-- two lists together count the sum of what each counts
abbrev pub CountsAdd : Type 0
CountsAdd = (xs ys : List Seg) (p : Point) → winding_number (xs ++ ys) p ≡ winding_number xs p +ℤ winding_number ys p

-- the order of the segments doesn't matter
abbrev pub CountsInAnyOrder : Type 0
CountsInAnyOrder = (xs ys : List Seg) (p : Point) → IsPermutation xs ys → winding_number xs p ≡ winding_number ys p

-- a segment from a point to itself counts nothing
abbrev pub PointsCountNothing : Type 0
PointsCountNothing = (a p : Point) → turn_of (seg a a) p ≡ pos 0

-- a segment walked back counts the opposite
abbrev pub TurnsBack : Type 0
TurnsBack = (s : Seg) (p : Point) → turn_of (turned s) p ≡ neg_ℤ (turn_of s p)

-- a walk counts what its two parts count, parted at one of its points
abbrev pub WalksAdd : Type 0
WalksAdd = (before : List Point) (q : Point) (after : List Point) (p : Point) →
    winding_number (joins (before ++ q ∷ after)) p ≡ winding_number (joins (before ++ q ∷ [])) p +ℤ winding_number (joins (q ∷ after)) p

-- a walk back through the same points counts the opposite
abbrev pub WalksBack : Type 0
WalksBack = (points : List Point) (p : Point) → winding_number (joins (reverse points)) p ≡ neg_ℤ (winding_number (joins points) p)

-- ---- segments that are cut

-- a segment cut at a point of it counts what it counts whole, at every point p
abbrev pub CutAtPoint : Type 0
CutAtPoint = (s : Seg) (q p : Point) → IsOn s q → turn_of (seg s.a q) p +ℤ turn_of (seg q s.b) p ≡ turn_of s p

-- so does one cut at many points, in order along it
abbrev pub CutAtPoints : Type 0
CutAtPoints = (a b : Point) (qs : List Point) (p : Point) → IsAlong a qs b → winding_number (joins (a ∷ (qs ++ b ∷ []))) p ≡ turn_of (seg a b) p

-- points at multiples of one step that never fall are in order along the segment from the first to the last
abbrev pub StepsAlong : Type 0
StepsAlong = (w : Point) (e : Vector) (a b : ℤ) (ts : List ℤ) → Rises a ts b → IsAlong (at w e a) (map (at w e) ts) (at w e b)

-- ---- parity

-- a segment meets the height of p east of p, its lower end included and its higher one left out: the point t / d of the way along it is at that height and further east
pub record MeetsEast (s : Seg) (p : Point) : Type 0 where
  pub reaches : ((s.a.y ≤ℤ p.y) × (p.y <ℤ s.b.y)) ⊎ ((s.b.y ≤ℤ p.y) × (p.y <ℤ s.a.y))
  pub t : ℤ
  pub d : ℤ
  pub positive : pos 0 <ℤ d
  pub level : d *ℤ (p.y -ℤ s.a.y) ≡ t *ℤ (s.b.y -ℤ s.a.y)
  pub east : (d *ℤ (p.x -ℤ s.a.x)) <ℤ (t *ℤ (s.b.x -ℤ s.a.x))

-- a segment passes east of p exactly where it meets p's height there
abbrev pub PassesWhereMet : Type 0
PassesWhereMet = (s : Seg) (p : Point) → IsTrue (passes s p) ↔ MeetsEast s p

-- twice a whole number
abbrev pub IsEven : ℤ → Type 0
IsEven z = (k : ℤ) × (z ≡ k +ℤ k)

-- one more than twice a whole number
abbrev pub IsOdd : ℤ → Type 0
IsOdd z = (k : ℤ) × (z ≡ (k +ℤ k) +ℤ pos 1)

-- an odd number of segments passes a point's height east of it exactly where their winding number is odd
abbrev pub OddCount : Type 0
OddCount = (segs : List Seg) (p : Point) → IsTrue (odd_of segs p) ↔ IsOdd (winding_number segs p)

-- and an even number exactly where it is even
abbrev pub EvenCount : Type 0
EvenCount = (segs : List Seg) (p : Point) → IsFalse (odd_of segs p) ↔ IsEven (winding_number segs p)

-- the order of the segments doesn't matter to the parity
abbrev pub OddInAnyOrder : Type 0
OddInAnyOrder = (xs ys : List Seg) (p : Point) → IsPermutation xs ys → odd_of xs p ≡ odd_of ys p
