-- Marks of nodes, and the discs that are marked.
use Rattle.std.specs.Prelude.{◌≡◌, ℕ, ◌+◌, ◌*◌, ◌<◌, ◌≤◌, Bool, false, nat_lt, List, length, slice_index, slice_index_or}
use Rattle.depth_grid.specs.Disc.{near}
use Rattle.depth_grid.specs.declared.disc.Radii.{Radii}
use Rattle.sounding_select.specs.Selection.{radius_of}
use Rattle.sounding_select.specs.declared.discs.Disc.{Disc}

-- whether a node is marked, where the marks stand row by row
abbrev pub marked_at : List Bool → ℕ → ℕ → ℕ → Bool
marked_at marks cols row col = slice_index_or marks (row * cols + col) false

-- whether a disc of these widths has a node so many rows and columns away
abbrev pub disc_has : List ℕ → ℕ → ℕ → Bool
disc_has widths down across = nat_lt across (slice_index widths down)

-- the widths of a disc on a grid of so many rows and columns: for the rows 0, 1, 2 and more away how many columns it has to one side, its node's own included
pub record AreWidths (aspect radius rows cols : ℕ) (widths : List ℕ) : Type 0 where
  pub few : length widths ≤ rows
  pub some : (down : ℕ) → down < length widths → 1 ≤ slice_index widths down
  pub narrow : (down : ℕ) → slice_index widths down ≤ cols
  pub exact : (down across : ℕ) → down < rows → across < cols → near aspect radius down across ≡ disc_has widths down across

-- the discs of the bands 0 to n - 1
pub record AreDiscs (radii : Radii) (rows cols n : ℕ) (discs : List Disc) : Type 0 where
  pub full : length discs ≡ n
  pub each : (band : ℕ) (d : Disc) → band < n → AreWidths radii.aspect (radius_of radii band) rows cols (slice_index_or discs band d).widths.items
