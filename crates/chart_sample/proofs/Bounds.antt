-- Bounds of the sample's noise and depths.
use Rattle.std.proofs.Common.{◌≡◌, ℕ, ◌+◌, ◌*◌, ◌<◌, ℤ, pos, neg_ℤ, ◌-ℤ◌, ◌≤ℤ◌, Bool, true, false, Some, None, arith}
use Rattle.std.specs.Prelude.{if◌then◌else◌}
use Rattle.std.proofs.lemmas.Int.{ints}
use Rattle.chart_sample.specs.Depths.{bare, noise_at, sample_depth}

pub noise_small : (n row col : ℕ) → noise_at n row col < 2000
noise_small n row col = omega arith

-- a depth is raised noise, where there is one
depth_is : (b : Bool) (z d : ℤ) → (if b then None else Some z) ≡ Some d → z ≡ d
depth_is true z d h = absurd (let e : None ≡ Some d = h in cc)
depth_is false z d h = let e : Some z ≡ Some d = h in cc

-- a depth is at most a metre above datum, and grows by 90 millimetres a column and 20 a row
pub depth_between : (n row col : ℕ) (d : ℤ) → sample_depth n row col ≡ Some d → (neg_ℤ (pos 1000) ≤ℤ d) × (d ≤ℤ pos (90 * col + 20 * row + 999))
depth_between n row col d h = bounded (noise_at n row col) (noise_small n row col) (depth_is (bare row col) _ d h)
  where
    bounded : (noise : ℕ) → noise < 2000 → (pos (90 * col + 20 * row + noise) -ℤ pos 1000) ≡ d → (neg_ℤ (pos 1000) ≤ℤ d) × (d ≤ℤ pos (90 * col + 20 * row + 999))
    bounded noise small e = (omega (arith, ints), omega (arith, ints))

-- the depths of the sample grid lie from 1,000 millimetres above datum to 42,999 below it
pub depth_range : (n row col : ℕ) (d : ℤ) → row < 301 → col < 401 → sample_depth n row col ≡ Some d → (neg_ℤ (pos 1000) ≤ℤ d) × (d ≤ℤ pos 42999)
depth_range n row col d r c h =
    let b = depth_between n row col d h in
    (b.0, omega (arith, ints, b.1))
