-- Tracing under way: what lies at each point, which half goes on from another, and what has been taken.
use Rattle.std.specs.Prelude.{◌≡◌, ℕ, zero, suc, ◌+◌, ◌<◌, List, [], ◌∷◌, Bool, true, false, not, cond, nat_eq, length, slice_index_or, slice_set, map, All, ◌⊎◌}
use Rattle.list_counts.specs.Times.{times}
use Rattle.chains.specs.Nets.{line_at, begin_of, end_of, ends_at, half_at, first_point, last_point, lines_of}
use Rattle.chains.specs.declared.Line.{Line}
use Rattle.chains.specs.declared.Half.{Half}
use Rattle.chains.specs.declared.spots.Spot.{Spot}
use Rattle.chains.specs.declared.spots.Spot.TheVariants.{Empty, One, Two, More}

-- a half, walked the other way
abbrev pub back : Half → Half
back h = record { line = h.line; forward = not h.forward }

-- a half is put before others if it begins at p
abbrev pub grown : ℕ → Half → ℕ → List Half → List Half
grown q h p hs = cond (nat_eq q p) (h ∷ hs) hs

-- of the first i lines the halves that begin at p, from the last to the first
abbrev pub leaving : List Line → ℕ → ℕ → List Half
leaving lines zero p = []
leaving lines (suc i) p =
    grown (line_at lines i).end (record { line = i; forward = false }) p (grown (line_at lines i).begin (record { line = i; forward = true }) p (leaving lines i p))

-- what is noted of the halves that begin at a point
abbrev pub spot_of : List Half → Spot
spot_of [] = Empty
spot_of (a ∷ []) = One a
spot_of (a ∷ b ∷ []) = Two a b
spot_of (a ∷ b ∷ c ∷ hs) = More

-- what is noted once one more half begins there
abbrev pub with_half : Half → Spot → Spot
with_half h Empty = One h
with_half h (One a) = Two h a
with_half h (Two a b) = More
with_half h More = More

-- the spots once one more half is noted at a point
abbrev pub noted : List Spot → ℕ → Half → List Spot
noted spots p h = slice_set spots p (with_half h (slice_index_or spots p Empty))

-- for each point it is noted which halves of the first i lines begin there
pub record Notes (lines : List Line) (points i : ℕ) (spots : List Spot) : Type 0 where
  pub wide : length spots ≡ points
  pub notes : (p : ℕ) → p < points → slice_index_or spots p Empty ≡ spot_of (leaving lines i p)

-- t goes on where h ends: only these two lines have an end there
pub record GoesOn (lines : List Line) (h t : Half) : Type 0 where
  pub inside : t.line < length lines
  pub meets : begin_of lines t ≡ end_of lines h
  pub two : ends_at lines (end_of lines h) ≡ 2
  pub turns : t ≡ back h → ⊥

-- t goes on where h ends, or it is h, where it doesn't end at a point with two line ends
abbrev pub Leaves : List Line → Half → Half → Type 0
Leaves lines h t = GoesOn lines h t ⊎ ((ends_at lines (end_of lines h) ≡ 2 → ⊥) × (t ≡ h))

-- a line was taken
abbrev pub IsUsed : List Bool → ℕ → Type 0
IsUsed used a = slice_index_or used a false ≡ true

-- what goes on from a taken line was taken
abbrev pub IsSettled : List Line → List Bool → Type 0
IsSettled lines used = (h t : Half) → h.line < length lines → IsUsed used h.line → GoesOn lines h t → IsUsed used t.line

-- a chain as it is walked: each half goes on from the one before, and it is closed or neither its first nor its last point has two line ends
pub record IsTrace (lines : List Line) (chain : List Half) : Type 0 where
  pub long : 0 < length chain
  pub goes : (i : ℕ) → i + 1 < length chain → GoesOn lines (half_at chain i) (half_at chain (i + 1))
  pub ends : (first_point lines chain ≡ last_point lines chain) ⊎ ((ends_at lines (first_point lines chain) ≡ 2 → ⊥) × (ends_at lines (last_point lines chain) ≡ 2 → ⊥))

-- the lines of a path were taken, each once, and no other
pub record Takes (lines : List Line) (used : List Bool) (path : List Half) (used' : List Bool) : Type 0 where
  pub wide : length used' ≡ length lines
  pub once : (a : ℕ) → cond (slice_index_or used a false) 1 0 + times a (map (λ h. h.line) path) ≡ cond (slice_index_or used' a false) 1 0

-- a walk may begin with a half: at a point that hasn't two line ends, or where all lines that are left end at such points
abbrev pub MayBegin : List Line → List Bool → Half → Type 0
MayBegin lines used start =
    (ends_at lines (begin_of lines start) ≡ 2 → ⊥) ⊎ ((h : Half) → h.line < length lines → slice_index_or used h.line false ≡ false → ends_at lines (end_of lines h) ≡ 2)

-- the path is empty, or each of its halves goes on from the one before and the next half leaves its last
abbrev pub Came : List Line → List Half → Half → Half → Type 0
Came lines path start next = ((path ≡ []) × (next ≡ start)) ⊎ ((k : ℕ) × (length path ≡ k + 1) × (half_at path 0 ≡ start) × Leaves lines (half_at path k) next)

-- a walk that began with `start` is about to take the half `next`
pub record Walks (lines : List Line) (used : List Bool) (path : List Half) (used' : List Bool) (start next : Half) : Type 0 where
  pub takes : Takes lines used path used'
  pub inside : next.line < length lines
  pub goes : (i : ℕ) → i + 1 < length path → GoesOn lines (half_at path i) (half_at path (i + 1))
  pub came : Came lines path start next

-- no walk is under way: each taken line is in a chain, once, and each chain is walked to its end
pub record Rests (lines : List Line) (used : List Bool) (path : List Half) (chains : List (List Half)) : Type 0 where
  pub wide : length used ≡ length lines
  pub once : (a : ℕ) → times a (lines_of chains) ≡ cond (slice_index_or used a false) 1 0
  pub traced : All (IsTrace lines) chains
  pub settled : IsSettled lines used
  pub empty : path ≡ []

-- of the first i lines each that begins or ends at a point that hasn't two line ends was taken
abbrev pub HasOpen : List Line → ℕ → List Bool → Type 0
HasOpen lines i used = (h : Half) → h.line < i → (ends_at lines (begin_of lines h) ≡ 2 → ⊥) → IsUsed used h.line
