-- A band of a generalised grid has one range.
use Rattle.std.proofs.Common.{◌≡◌, ℕ, ℤ, ◌≤ℤ◌, List, sym, ap, ap₂, ◌∙◌, arith}
use Rattle.std.proofs.lemmas.Int.{ints}
use Rattle.mesh_definitions.specs.Ranges.{IsRange}
use Rattle.depth_rounding.specs.Bands.{shoaler_end, deeper_end}
use Rattle.shoal_buffer.specs.Charted.{ChartedView, StandsIn}
use Rattle.shoal_buffer.specs.Opening.{IsLeast, IsGreatest}

-- a least number is one
least_once : (P : ℤ → Type 0) (x y : ℤ) → IsLeast P x → IsLeast P y → x ≡ y
least_once P x y a b =
    let up : x ≤ℤ y = a.least y b.stands in
    let down : y ≤ℤ x = b.least x a.stands in
    omega (arith, ints, up, down)

-- and a greatest one
greatest_once : (P : ℤ → Type 0) (x y : ℤ) → IsGreatest P x → IsGreatest P y → x ≡ y
greatest_once P x y a b =
    let up : x ≤ℤ y = b.greatest x a.stands in
    let down : y ≤ℤ x = a.greatest y b.stands in
    omega (arith, ints, up, down)

-- so two ranges of one band are the same two depths
pub range_once : (v : ChartedView) (levels : List ℤ) (band : ℕ) (low high shoaler deeper : ℤ) → IsRange v levels band low high → IsRange v levels band shoaler deeper →
    (low ≡ shoaler) × (high ≡ deeper)
range_once v levels band low high shoaler deeper a b =
    let least : a.least ≡ b.least = least_once (StandsIn v.charted) a.least b.least a.extent.0 b.extent.0 in
    let greatest : a.greatest ≡ b.greatest = greatest_once (StandsIn v.charted) a.greatest b.greatest a.extent.1 b.extent.1 in (
      a.from ∙ (ap (λ x. shoaler_end levels x band) least ∙ sym b.from),
      a.to ∙ (ap₂ (λ x y. deeper_end levels x y band) least greatest ∙ sym b.to),
    )
