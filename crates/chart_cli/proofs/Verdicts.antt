-- The verdict on a chart, from what is said of each of its cases.
use Rattle.std.proofs.Common.{◌≡◌, ◌↔◌, ℕ, ℤ, Result, Ok, Err, IfOk, refl}
use Rattle.std.specs.declared.alloc.AllocError.{AllocError}
use Rattle.cell_check.specs.Verdicts.{IsCrossedAt, IsTiledBy, IsTooMany, IsVerdict, IsWrongAt}
use Rattle.cell_check.specs.declared.verdict.Verdict.{Verdict}
use Rattle.cell_check.specs.declared.verdict.Verdict.TheVariants.{Tiles, TooMany, Crossed, Wrong}
use Rattle.chart_model.specs.declared.records.Parts.{Parts}

verdict_is : (c : Parts) (v : Verdict) → ((n : ℕ) → (v ≡ TooMany n) ↔ IsTooMany c n) → ((y : ℤ) → (v ≡ Crossed y) ↔ IsCrossedAt c y) → ((y : ℤ) → (v ≡ Wrong y) ↔ IsWrongAt c y) → ((a : ℕ) → (v ≡ Tiles a) ↔ IsTiledBy c a) → IsVerdict c v
verdict_is c (TooMany n) many crossed wrong tiles = (many n).0 refl
verdict_is c (Crossed y) many crossed wrong tiles = (crossed y).0 refl
verdict_is c (Wrong y) many crossed wrong tiles = (wrong y).0 refl
verdict_is c (Tiles a) many crossed wrong tiles = (tiles a).0 refl

-- what a check answers, if it does, is the verdict
pub verdict_found : (c : Parts) (r : Result Verdict AllocError) → IfOk r (λ v. (n : ℕ) → (v ≡ TooMany n) ↔ IsTooMany c n) → IfOk r (λ v. (y : ℤ) → (v ≡ Crossed y) ↔ IsCrossedAt c y) → IfOk r (λ v. (y : ℤ) → (v ≡ Wrong y) ↔ IsWrongAt c y)
    → IfOk r (λ v. (a : ℕ) → (v ≡ Tiles a) ↔ IsTiledBy c a) → IfOk r (IsVerdict c)
verdict_found c (Ok v) many crossed wrong tiles = verdict_is c v many crossed wrong tiles
verdict_found c (Err e) many crossed wrong tiles = tt
