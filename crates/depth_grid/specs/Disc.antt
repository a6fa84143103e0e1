-- Discs of nodes.
use Rattle.std.specs.Prelude.{ℕ, ◌+◌, ◌*◌, Bool, nat_le}

-- a node so many rows and columns away is in a disc of this radius in thousandths of a row, where a column is `aspect` thousandths of a row wide
abbrev pub near : ℕ → ℕ → ℕ → ℕ → Bool
near aspect radius rows cols = nat_le ((1000 * rows) * (1000 * rows) + (aspect * cols) * (aspect * cols)) (radius * radius)
