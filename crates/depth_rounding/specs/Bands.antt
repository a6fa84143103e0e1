-- Bands of depth between levels, and their ranges, in decimetres.
use Rattle.std.specs.Prelude.{ℕ, zero, suc, ◌<◌, ◌≤◌, ℤ, pos, neg_ℤ, ◌+ℤ◌, ◌<ℤ◌, ◌≤ℤ◌, nat_lt, int_le, List, length, slice_index_or, count_by, if◌then◌else◌}
use Rattle.std.specs.Int.{int_max}

-- level k, numbered from 0
abbrev pub level_at : List ℤ → ℕ → ℤ
level_at levels k = slice_index_or levels k (pos 0)

-- at most 20 levels, strictly rising, within 11,999.9 metres of the datum
pub record AreLevels (levels : List ℤ) : Type 0 where
  pub few : length levels ≤ 20
  pub above : (k : ℕ) → k < length levels → neg_ℤ (pos 119999) ≤ℤ level_at levels k
  pub below : (k : ℕ) → k < length levels → level_at levels k ≤ℤ pos 119999
  pub rising : (i k : ℕ) → i < k → k < length levels → level_at levels i <ℤ level_at levels k

-- the number of levels that a charted depth reaches: one that equals a level is on its deep side
abbrev pub band_of : List ℤ → ℤ → ℕ
band_of levels c = count_by (λ level. int_le level c) levels

-- the shoaler end of a band, where `least` is the least charted depth
abbrev pub shoaler_end : List ℤ → ℤ → ℕ → ℤ
shoaler_end levels least zero = least
shoaler_end levels least (suc k) = level_at levels k

-- the deeper end: the next level, and past the last one the greatest charted depth, but at least a decimetre more than the shoaler end
abbrev pub deeper_end : List ℤ → ℤ → ℤ → ℕ → ℤ
deeper_end levels least greatest band = if nat_lt band (length levels) then level_at levels band else int_max greatest (shoaler_end levels least band +ℤ pos 1)
