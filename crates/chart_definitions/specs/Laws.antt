-- Small laws of the definitions.
use Rattle.std.specs.Prelude.{◌≡◌, ℤ, FitsSigned}
use Rattle.std.specs.Int.{w32}
use Rattle.chart_definitions.specs.Areas.{IsDepthArea, IsUnsurveyedArea}
use Rattle.chart_model.specs.declared.records.Feature.{Feature}

-- a depth area tells one least depth and one greatest, of those that fit 32 bits
abbrev pub OneRange : Type 0
OneRange = (low high l h : ℤ) (f : Feature) → IsDepthArea low high f → IsDepthArea l h f →
    (FitsSigned w32 low → FitsSigned w32 l → low ≡ l) × (FitsSigned w32 high → FitsSigned w32 h → high ≡ h)

-- no depth area is an unsurveyed area
abbrev pub KindsDiffer : Type 0
KindsDiffer = (low high : ℤ) (f : Feature) → IsDepthArea low high f → ¬ (IsUnsurveyedArea f)
