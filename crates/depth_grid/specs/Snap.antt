-- Positions on the raster of 32 ten-millionths of a degree. A position is given doubled, in units of 10^-24 degree.
use Rattle.std.specs.Prelude.{◌≡◌, ◌*◌, ◌^◌, ℤ, pos, neg_ℤ, ◌+ℤ◌, ◌-ℤ◌, ◌*ℤ◌, ◌<ℤ◌, ◌≤ℤ◌, Bool, ◌&&◌, int_le, Option, Some, None, if◌then◌else◌}
use Rattle.std.specs.Int.{int_div_euclid}

-- the multiple of 32 nearest to a doubled position
abbrev pub snapped : ℤ → ℤ
snapped t = pos 32 *ℤ int_div_euclid (t +ℤ pos (32 * 10 ^ 17)) (pos (64 * 10 ^ 17))

-- s is a multiple of 32, at most 16 units from the position; of two that are as near it is the greater
pub record IsNearest (t s : ℤ) : Type 0 where
  pub whole : (k : ℤ) × (s ≡ pos 32 *ℤ k)
  pub above : neg_ℤ (pos (32 * 10 ^ 17)) <ℤ (pos (2 * 10 ^ 17) *ℤ s -ℤ t)
  pub below : (pos (2 * 10 ^ 17) *ℤ s -ℤ t) ≤ℤ pos (32 * 10 ^ 17)

-- within 180 degrees of 0
abbrev pub within : ℤ → Bool
within s = int_le (neg_ℤ (pos 1800000000)) s && int_le s (pos 1800000000)

-- the snapped position, where it is within 180 degrees
abbrev pub snap_of : ℤ → Option ℤ
snap_of t = if within (snapped t) then Some (snapped t) else None
