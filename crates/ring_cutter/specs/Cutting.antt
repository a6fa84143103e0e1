-- A cut under way: pairing each arc with one that goes on where it ends, then walking and cutting.
use Rattle.std.specs.Prelude.{◌≡◌, ℕ, zero, suc, ◌+◌, ◌<◌, List, Option, Some, None, slice_index, slice_index_or, length, take, drop, nat_eq, cond, All, Bool, true, false, ◌⊎◌, ◌++◌, ◌∷◌, []}
use Rattle.std.specs.List.{concat}
use Rattle.list_counts.specs.Times.{times}
use Rattle.ring_cutter.specs.Rings.{Leads, IsCycle}

-- all entries of a table are empty
abbrev pub IsClear : List (Option ℕ) → Type 0
IsClear table = (p : ℕ) → slice_index_or table p None ≡ None

-- a table with an empty entry for each of the points
pub record IsBlank (points : ℕ) (table : List (Option ℕ)) : Type 0 where
  pub wide : length table ≡ points
  pub clear : IsClear table

-- of the first i arcs those that begin at p, from the last to the first
abbrev pub those : (ℕ → ℕ) → ℕ → ℕ → List ℕ
those from zero p = []
those from (suc i) p = cond (nat_eq (from i) p) (i ∷ those from i p) (those from i p)

-- links lead from an entry through a list of arcs and end there
abbrev pub Chain : List (Option ℕ) → Option ℕ → List ℕ → Type 0
Chain next o [] = o ≡ None
Chain next o (a ∷ xs) = (o ≡ Some a) × (a < length next) × Chain next (slice_index_or next a None) xs

-- for each point links lead through the arcs below i that begin there
pub record Lists (from : ℕ → ℕ) (points i : ℕ) (first next : List (Option ℕ)) : Type 0 where
  pub wide : length first ≡ points
  pub chains : (p : ℕ) → p < points → Chain next (slice_index_or first p None) (those from i p)

-- of the first i arcs the number of those that end at p
abbrev pub arrivals : (ℕ → ℕ) → ℕ → ℕ → ℕ
arrivals to zero p = 0
arrivals to (suc i) p = cond (nat_eq (to i) p) 1 0 + arrivals to i p

-- the first i arcs have each got an arc that goes on where they end: the next one that is left there
pub record Pairs (from to : ℕ → ℕ) (points all i : ℕ) (first next : List (Option ℕ)) (after : List ℕ) : Type 0 where
  pub wide : length first ≡ points
  pub chains : (p : ℕ) → p < points → Chain next (slice_index_or first p None) (drop (arrivals to i p) (those from all p))
  pub each : length after ≡ i
  pub picks : (a : ℕ) → a < i → (arrivals to a (to a) < length (those from all (to a))) × (slice_index after a ≡ slice_index (those from all (to a)) (arrivals to a (to a)))

-- after each arc comes one that begins where it ends, and different arcs have different ones after them
pub record GoesOn (from to : ℕ → ℕ) (all : ℕ) (after : List ℕ) : Type 0 where
  pub each : length after ≡ all
  pub inside : (a : ℕ) → a < all → slice_index after a < all
  pub there : (a : ℕ) → a < all → from (slice_index after a) ≡ to a
  pub apart : (a b : ℕ) → a < all → b < all → slice_index after a ≡ slice_index after b → a ≡ b

-- the entries of the points where the first n arcs of a ring begin are emptied, and no other changes
pub record Clears (from : ℕ → ℕ) (ring : List ℕ) (n : ℕ) (place place' : List (Option ℕ)) : Type 0 where
  pub wide : length place' ≡ length place
  pub gone : (i : ℕ) → i < n → slice_index_or place' (from (slice_index ring i)) None ≡ None
  pub either : (p : ℕ) → (slice_index_or place' p None ≡ None) ⊎ (slice_index_or place' p None ≡ slice_index_or place p None)
  pub kept : (p : ℕ) → ((i : ℕ) → i < n → from (slice_index ring i) ≡ p → ⊥) → slice_index_or place' p None ≡ slice_index_or place p None

-- a path has no other arcs than those given, and they begin at the points given
abbrev pub AreInside : (ℕ → ℕ) → ℕ → ℕ → List ℕ → Type 0
AreInside from points all path = (i : ℕ) → i < length path → (slice_index path i < all) × (from (slice_index path i) < points)

-- the path is cut before its k-th arc, and what is cut off is a ring more
pub record Closes (from : ℕ → ℕ) (k : ℕ) (place : List (Option ℕ)) (path : List ℕ) (rings : List (List ℕ)) (place' : List (Option ℕ)) (path' : List ℕ) (rings' : List (List ℕ)) : Type 0 where
  pub rest : path' ≡ take k path
  pub ring : rings' ≡ rings ++ drop k path ∷ []
  pub cleared : Clears from (drop k path) (length (drop k path)) place place'

-- a path leads from home to here and passes no point twice; the entry of each point has the place of the arc on it that begins there
pub record IsPath (from to : ℕ → ℕ) (points all : ℕ) (place : List (Option ℕ)) (path : List ℕ) (home here : ℕ) : Type 0 where
  pub wide : length place ≡ points
  pub inside : AreInside from points all path
  pub leads : Leads from to home path here
  pub marked : (i : ℕ) → i < length path → slice_index_or place (from (slice_index path i)) None ≡ Some i
  pub marks : (p k : ℕ) → slice_index_or place p None ≡ Some k → (k < length path) × (from (slice_index path k) ≡ p)

-- an arc was taken
abbrev pub IsUsed : List Bool → ℕ → Type 0
IsUsed used a = slice_index_or used a false ≡ true

-- b comes after an arc that was taken
abbrev pub IsEntered : List Bool → List ℕ → ℕ → Type 0
IsEntered used after b = (a : ℕ) × (a < length after) × IsUsed used a × (slice_index after a ≡ b)

-- each arc that was taken is in a ring or on the path, once, and no other is
pub record Takes (from to : ℕ → ℕ) (all : ℕ) (used : List Bool) (path : List ℕ) (rings : List (List ℕ)) : Type 0 where
  pub wide : length used ≡ all
  pub once : (a : ℕ) → times a (concat rings) + times a path ≡ cond (slice_index_or used a false) 1 0
  pub closed : All (IsCycle from to) rings

-- no walk is under way: the path is empty, and of what was taken each arc comes after one that was taken
pub record Rests (from to : ℕ → ℕ) (points all : ℕ) (after : List ℕ) (used : List Bool) (place : List (Option ℕ)) (path : List ℕ) (rings : List (List ℕ)) : Type 0 where
  pub takes : Takes from to all used path rings
  pub empty : path ≡ []
  pub blank : IsBlank points place
  pub entered : (b : ℕ) → IsUsed used b → IsEntered used after b

-- a walk that began with the arc `start` comes to the arc `next`: of what was taken only `start` may come after none that was
pub record Walks (from to : ℕ → ℕ) (points all : ℕ) (after : List ℕ) (used : List Bool) (place : List (Option ℕ)) (path : List ℕ) (rings : List (List ℕ)) (start next : ℕ) : Type 0 where
  pub takes : Takes from to all used path rings
  pub walked : IsPath from to points all place path (from start) (from next)
  pub free : slice_index_or place (from next) None ≡ None
  pub inside : next < all
  pub came : ((slice_index_or used start false ≡ false) × (next ≡ start)) ⊎ IsEntered used after next
  pub entered : (b : ℕ) → IsUsed used b → (b ≡ start) ⊎ IsEntered used after b
  pub round : IsUsed used next → next ≡ start
