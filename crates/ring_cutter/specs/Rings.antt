-- Closed rings of directed arcs: what is given, and what a cut says. Arcs and points are numbers; a ring is the list of its arcs in the order of the walk.
use Rattle.std.specs.Prelude.{◌≡◌, ℕ, ◌<◌, List, slice_index, slice_index_or, length, count_by, nat_eq, All, IsPermutation, ◌∷◌, []}
use Rattle.std.specs.List.{concat, range_with_len}
use Rattle.ring_cutter.specs.declared.Hop.{Hop}

-- where an arc begins
abbrev pub begins : List Hop → ℕ → ℕ
begins hops a = (slice_index_or hops a (record { begin = 0; end = 0 })).begin

-- where an arc ends
abbrev pub ends : List Hop → ℕ → ℕ
ends hops a = (slice_index_or hops a (record { begin = 0; end = 0 })).end

-- arcs between the points 0 to points - 1, of which as many begin as end at each point
pub record IsBalanced (hops : List Hop) (points : ℕ) : Type 0 where
  pub begin_inside : (a : ℕ) → a < length hops → begins hops a < points
  pub end_inside : (a : ℕ) → a < length hops → ends hops a < points
  pub even : (p : ℕ) → count_by (λ h. nat_eq h.begin p) hops ≡ count_by (λ h. nat_eq h.end p) hops

-- walked in order, these arcs lead from one point to another, each beginning where the one before ends
abbrev pub Leads : (ℕ → ℕ) → (ℕ → ℕ) → ℕ → List ℕ → ℕ → Type 0
Leads from to p [] q = p ≡ q
Leads from to p (a ∷ xs) q = (from a ≡ p) × Leads from to (to a) xs q

-- different arcs of the list begin at different points
abbrev pub IsSimple : (ℕ → ℕ) → List ℕ → Type 0
IsSimple from xs = (i j : ℕ) → i < length xs → j < length xs → from (slice_index xs i) ≡ from (slice_index xs j) → i ≡ j

-- a closed walk of at least one arc that passes no point twice
pub record IsCycle (from to : ℕ → ℕ) (xs : List ℕ) : Type 0 where
  pub long : 0 < length xs
  pub start : ℕ
  pub closed : Leads from to start xs start
  pub simple : IsSimple from xs

-- put one after another the rings are the arcs in another order, so each arc stands in one ring, once
pub record CutsIntoRings (hops : List Hop) (rings : List (List ℕ)) : Type 0 where
  pub each_once : IsPermutation (range_with_len 0 (length hops)) (concat rings)
  pub closed : All (IsCycle (begins hops) (ends hops)) rings
