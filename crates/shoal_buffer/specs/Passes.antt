-- What a pass works with, as its methods find it.
use Rattle.std.specs.Prelude.{◌≡◌, ℕ, ◌+◌, ◌-◌, ◌*◌, ◌<◌, ◌≤◌, ◌⊎◌, ℤ, List, length, slice_get, slice_index_or, IfSome, Option, None}
use Rattle.shoal_buffer.specs.declared.pass.Pass.{Pass}
use Rattle.shoal_buffer.specs.declared.pass.Window.{Window}
use Rattle.shoal_buffer.specs.declared.pass.Cores.{Cores}
use Rattle.shoal_buffer.specs.Picks.{IsPickAt}
use Rattle.shoal_buffer.specs.Keys.{key_at}
use Rattle.shoal_buffer.specs.Chords.{IsChord}
use Rattle.shoal_buffer.specs.Cores.{AreLeastKeys, IsKeyRow}

-- the key of a node
abbrev pub node_key : Pass → ℕ → ℕ → ℤ
node_key p row col = key_at p.pick p.values.now p.discs.cols row col

-- the keys of a row
abbrev pub IsRowOf : Pass → ℕ → List ℤ → Type 0
IsRowOf p row keys = IsKeyRow (node_key p) p.discs.rows p.discs.cols row keys

-- a disc's chord in a row so many rows away
abbrev pub IsChordOf : Pass → ℕ → ℕ → Type 0
IsChordOf p away across = IsChord p.discs.reach.aspect p.discs.reach.radius p.discs.cols away across

-- the first row that a window holds
abbrev pub first_row : Window → ℕ
first_row w = w.next - length w.rows.items

-- a window holds the rows before the next one, as many as a disc is high
pub record IsWindow (p : Pass) (w : Window) : Type 0 where
  pub capacity : w.rows.capacity ≡ 2 * p.discs.away + 1
  pub next_in : w.next ≤ p.discs.rows
  pub held : length w.rows.items ≤ w.next
  pub whole : (w.rows.capacity ≤ length w.rows.items) ⊎ (length w.rows.items ≡ w.next)
  pub each : (k : ℕ) → IfSome (slice_get w.rows.items k) (λ v. IsRowOf p (first_row w + k) v.items)

-- it holds the rows that the discs of a row's nodes reach
pub record IsWindowAt (p : Pass) (w : Window) (row : ℕ) : Type 0 where
  pub window : IsWindow p w
  pub north : (k : ℕ) → k ≤ row → row ≤ k + p.discs.away → first_row w ≤ k
  pub south : (k : ℕ) → k < p.discs.rows → k ≤ row + p.discs.away → k < w.next

-- cores of the discs of a pass, each with its least key, and room for as many
pub record AreCoresOf (p : Pass) (c : Cores) : Type 0 where
  pub row_in : c.row < p.discs.rows
  pub spare : length c.spare.items ≡ p.discs.cols
  pub keys : AreLeastKeys (node_key p) p.discs.rows p.discs.cols p.discs.reach.aspect p.discs.reach.radius c.north c.south c.reserve c.row c.least.items

-- what the discs of the first n nodes give
pub record ArePicksBefore (p : Pass) (n : ℕ) (picked : List (Option ℤ)) : Type 0 where
  pub full : length picked ≡ n
  pub each : (k : ℕ) → k < n → IsPickAt p.pick p.discs.rows p.discs.cols p.discs.reach.aspect p.discs.reach.radius p.values.now k (slice_index_or p.values.now k None) (slice_index_or picked k None)
