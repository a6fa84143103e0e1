-- Laws of sums over pieces: boundaries cancel, and values from 0 up share a sum. X are the steps along sub-segments and Q the pieces, of any type.
use Rattle.std.specs.Prelude.{◌≡◌, ℤ, pos, ◌+ℤ◌, ◌≤ℤ◌, Bool, true, IsTrue, IsFalse, ◌&&◌, List, map, Contains}
use Rattle.plane_geom.specs.Geom.{winding_number}
use Rattle.plane_geom.specs.declared.Point.{Point}
use Rattle.plane_geom.specs.declared.Seg.{Seg}
use Rattle.plane_laws.specs.Borders.{total, part, AreFromZero, Borders, beside, boundary, TurnsTwice, HasPieces, IsSameness, IsSigned, IsPlacement}

-- what lies inside a set of pieces cancels: a signed value sums up along the boundary to what it sums up to over all steps with the set on the right
abbrev pub BoundarySum : Type 0 → Type 0 → Type 0
BoundarySum X Q = (b : Borders X Q) (F : Q → Bool) (f : X → ℤ) → TurnsTwice b → IsSigned b f → total f (boundary b F) ≡ total f (beside b F)

-- and to the sum over the set's pieces of what it sums up to along their own boundaries
abbrev pub SumOverPieces : Type 0 → Type 0 → Type 0
SumOverPieces X Q = (b : Borders X Q) (same : Q → Q → Bool) (pieces : List Q) (F : Q → Bool) (f : X → ℤ) → TurnsTwice b → IsSameness same → HasPieces b pieces → IsSigned b f →
    total f (boundary b F) ≡ part (λ q. total f (boundary b (same q))) F pieces

-- the winding number of the boundary of a set of pieces is the sum of those of its pieces
abbrev pub CountOverPieces : Type 0 → Type 0 → Type 0
CountOverPieces X Q = (b : Borders X Q) (same : Q → Q → Bool) (pieces : List Q) (F : Q → Bool) (place : X → Seg) (p : Point) → TurnsTwice b → IsSameness same → HasPieces b pieces → IsPlacement b place →
    winding_number (map place (boundary b F)) p ≡ part (λ q. winding_number (map place (boundary b (same q))) p) F pieces

-- all pieces together count what the outline counts, the steps with a piece on the right and none on the left
abbrev pub OutlineSum : Type 0 → Type 0 → Type 0
OutlineSum X Q = (b : Borders X Q) (same : Q → Q → Bool) (pieces : List Q) (place : X → Seg) (p : Point) → TurnsTwice b → IsSameness same → HasPieces b pieces → IsPlacement b place →
    total (λ q. winding_number (map place (boundary b (same q))) p) pieces ≡ winding_number (map place (boundary b (λ q. true))) p

-- of values from 0 up, a set's share of the sum lies from 0 to the whole
abbrev pub ShareOfSum : Type 0 → Type 0
ShareOfSum Q = (f : Q → ℤ) (F : Q → Bool) (xs : List Q) → AreFromZero f xs → (pos 0 ≤ℤ part f F xs) × (part f F xs ≤ℤ total f xs)

-- two sets that have nothing in common have no more than the whole together
abbrev pub SharesApart : Type 0 → Type 0
SharesApart Q = (f : Q → ℤ) (F G : Q → Bool) (xs : List Q) → AreFromZero f xs → ((q : Q) → IsFalse (F q && G q)) → (part f F xs +ℤ part f G xs) ≤ℤ total f xs

-- a set's share is at least the value of each of its members
abbrev pub ShareOfMember : Type 0 → Type 0
ShareOfMember Q = (f : Q → ℤ) (F : Q → Bool) (xs : List Q) (q : Q) → AreFromZero f xs → Contains xs q → IsTrue (F q) → f q ≤ℤ part f F xs

-- where the sum is 1, one of the values is 1
abbrev pub OneOfSum : Type 0 → Type 0
OneOfSum Q = (f : Q → ℤ) (xs : List Q) → AreFromZero f xs → total f xs ≡ pos 1 → (q : Q) × Contains xs q × (f q ≡ pos 1)
