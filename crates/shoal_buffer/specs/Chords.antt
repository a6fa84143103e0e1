-- How far a disc reaches along a row.
use Rattle.std.specs.Prelude.{◌≡◌, ℕ, ◌<◌, true, false}
use Rattle.depth_grid.specs.Disc.{near}

-- a disc reaches exactly so many columns, in a row so many rows away, of so many columns
pub record IsChord (aspect radius cols away across : ℕ) : Type 0 where
  pub below : across < cols
  pub is_near : near aspect radius away across ≡ true
  pub widest : (n : ℕ) → across < n → n < cols → near aspect radius away n ≡ false
