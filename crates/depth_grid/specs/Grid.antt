-- A grid of depths as plain values, and what every grid keeps.
use Rattle.std.specs.Prelude.{◌≡◌, ℕ, ◌+◌, ◌*◌, ◌<◌, ◌≤◌, ℤ, pos, neg_ℤ, ◌<ℤ◌, ◌≤ℤ◌, List, length, Option, Some, None, slice_index_or, int_rem}

-- a grid: the columns' x from west to east and the rows' y from north to south in ten-millionths of a degree, and row by row each node's depth in millimetres, if it has one
pub record GridView : Type 0 where
  pub xs : List ℤ
  pub ys : List ℤ
  pub depths : List (Option ℤ)

-- the place of a column or a row
abbrev pub place : List ℤ → ℕ → ℤ
place zs k = slice_index_or zs k (pos 0)

-- the depth of a node, none without data
abbrev pub depth_at : GridView → ℕ → ℕ → Option ℤ
depth_at g row col = slice_index_or g.depths (row * length g.xs + col) None

-- 2 to 1,025 places, each a multiple of 32 and at most so far from 0
pub record ArePlaces (zs : List ℤ) (most : ℕ) : Type 0 where
  pub several : 2 ≤ length zs
  pub few : length zs ≤ 1025
  pub whole : (k : ℕ) → k < length zs → int_rem (place zs k) (pos 32) ≡ pos 0
  pub above : (k : ℕ) → k < length zs → neg_ℤ (pos most) ≤ℤ place zs k
  pub below : (k : ℕ) → k < length zs → place zs k ≤ℤ pos most

-- each place is east of those before it
abbrev pub Rises : List ℤ → Type 0
Rises zs = (i k : ℕ) → i < k → k < length zs → place zs i <ℤ place zs k

-- each place is south of those before it
abbrev pub Falls : List ℤ → Type 0
Falls zs = (i k : ℕ) → i < k → k < length zs → place zs k <ℤ place zs i

-- a depth, where there is one, is within 12,000 metres of the datum
abbrev pub AreDepths : List (Option ℤ) → Type 0
AreDepths depths = (k : ℕ) (d : ℤ) → slice_index_or depths k None ≡ Some d → (neg_ℤ (pos 12000000) ≤ℤ d) × (d ≤ℤ pos 12000000)

-- what every grid keeps
pub record IsGrid (g : GridView) : Type 0 where
  pub columns : ArePlaces g.xs 1800000000
  pub rows : ArePlaces g.ys 900000000
  pub eastwards : Rises g.xs
  pub southwards : Falls g.ys
  pub full : length g.depths ≡ length g.ys * length g.xs
  pub limited : AreDepths g.depths
