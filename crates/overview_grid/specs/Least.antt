-- The least of depths of which some may be missing. A missing one counts as the shoalest: what wasn't measured may be as shoal as can be.
use Rattle.std.specs.Prelude.{ℤ, ◌≤ℤ◌, List, fold, Option, Some, None}
use Rattle.std.specs.Int.{int_min}

-- a depth is as shoal as another, or shoaler; a missing one is so beside any, and beside a missing one no other is
abbrev pub IsAsShoal : Option ℤ → Option ℤ → Type 0
IsAsShoal None e = Unit {0}
IsAsShoal (Some m) None = ⊥
IsAsShoal (Some m) (Some x) = m ≤ℤ x

-- r is the least of the depths that P holds of: none where one of them is missing, and else a least one
pub record IsLeastOf (P : Option ℤ → Type 0) (r : Option ℤ) : Type 0 where
  pub stands : P r
  pub least : (d : Option ℤ) → P d → IsAsShoal r d

-- the lesser of two depths, none where either is missing
abbrev pub lesser : Option ℤ → Option ℤ → Option ℤ
lesser None e = None
lesser (Some a) None = None
lesser (Some a) (Some b) = Some (int_min a b)

-- the least of a depth and others, none where one is missing
abbrev pub least_of : Option ℤ → List (Option ℤ) → Option ℤ
least_of d ds = fold lesser d ds
