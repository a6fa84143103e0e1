-- Pieces that meet along sub-segments, the boundaries of sets of pieces, and sums over lists.
use Rattle.std.specs.Prelude.{◌≡◌, ◌≢◌, ℤ, pos, ◌+ℤ◌, neg_ℤ, ◌≤ℤ◌, Bool, false, not, cond, ◌&&◌, Option, Some, None, List, [], ◌∷◌, ◌++◌, map, filter, All, AllPairs, Contains}
use Rattle.std.specs.Bool.{Decides}
use Rattle.plane_geom.specs.Segments.{turned}
use Rattle.plane_geom.specs.declared.Seg.{Seg}

-- the sum of f over a list
abbrev pub total : {X : Type 0} → (X → ℤ) → List X → ℤ
total f [] = pos 0
total f (x ∷ xs) = f x +ℤ total f xs

-- the sum of f over those of a list that are in a set
abbrev pub part : {X : Type 0} → (X → ℤ) → (X → Bool) → List X → ℤ
part f F xs = total (λ x. cond (F x) (f x) (pos 0)) xs

-- no value on the list is below 0
abbrev pub AreFromZero : {X : Type 0} → (X → ℤ) → List X → Type 0
AreFromZero f xs = All (λ x. pos 0 ≤ℤ f x) xs

-- Sub-segments between pieces Q: each is listed once, as a step X in one of its directions; the same walked back; and the piece on the right of a step, none beyond the border.
pub record Borders (X Q : Type 0) : Type 0 where
  pub listed : List X
  pub back : X → X
  pub right : X → Option Q

-- all sub-segments, each walked both ways
abbrev pub steps : {X Q : Type 0} → Borders X Q → List X
steps b = b.listed ++ map b.back b.listed

-- whether there is a piece, and it is in a set
abbrev pub within : {Q : Type 0} → (Q → Bool) → Option Q → Bool
within F None = false
within F (Some q) = F q

-- the steps with a set of pieces on the right
abbrev pub beside : {X Q : Type 0} → Borders X Q → (Q → Bool) → List X
beside b F = filter (λ x. within F (b.right x)) (steps b)

-- the boundary of a set of pieces: the steps with the set on the right and not on the left
abbrev pub boundary : {X Q : Type 0} → Borders X Q → (Q → Bool) → List X
boundary b F = filter (λ x. within F (b.right x) && not (within F (b.right (b.back x)))) (steps b)

-- a step that is walked back twice is as at first, of those that are listed
abbrev pub TurnsTwice : {X Q : Type 0} → Borders X Q → Type 0
TurnsTwice {X} b = (x : X) → Contains b.listed x → b.back (b.back x) ≡ x

-- a list of pieces, each once, that has all those on the right of a step
pub record HasPieces {X Q : Type 0} (b : Borders X Q) (pieces : List Q) : Type 0 where
  pub once : AllPairs ◌≢◌ pieces
  pub sides : (x : X) (q : Q) → Contains (steps b) x → b.right x ≡ Some q → Contains pieces q

-- a test of sameness
abbrev pub IsSameness : {Q : Type 0} → (Q → Q → Bool) → Type 0
IsSameness {Q} same = (x y : Q) → Decides (same x y) (x ≡ y)

-- a value of steps that is the opposite for a listed step walked back
abbrev pub IsSigned : {X Q : Type 0} → Borders X Q → (X → ℤ) → Type 0
IsSigned {X} b f = (x : X) → Contains b.listed x → f (b.back x) ≡ neg_ℤ (f x)

-- where steps lie, so that a step walked back is its segment the other way round
abbrev pub IsPlacement : {X Q : Type 0} → Borders X Q → (X → Seg) → Type 0
IsPlacement {X} b place = (x : X) → Contains b.listed x → place (b.back x) ≡ turned (place x)
