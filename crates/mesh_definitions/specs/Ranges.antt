-- The range of depths of a band.
use Rattle.std.specs.Prelude.{◌≡◌, ℕ, ℤ, Some, List}
use Rattle.depth_rounding.specs.Bands.{shoaler_end, deeper_end}
use Rattle.shoal_buffer.specs.Charted.{ChartedView, IsExtent}

-- low and high are the ends of a band, in decimetres, where charted depths lie between the least and the greatest of a generalised grid
pub record IsRange (v : ChartedView) (levels : List ℤ) (band : ℕ) (low high : ℤ) : Type 0 where
  pub least : ℤ
  pub greatest : ℤ
  pub extent : IsExtent v.charted (Some (least, greatest))
  pub from : low ≡ shoaler_end levels least band
  pub to : high ≡ deeper_end levels least greatest band
