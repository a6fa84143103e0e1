use Rattle.std.proofs.Common.{◌≡◌, pos, ◌*ℤ◌, to_z, of_z, w32, FitsSigned, sym, ◌∙◌, ap, subst, arith, rules, refl}
use Rattle.std.proofs.lemmas.Int.{ints, to_z-of_z}
use Rattle.std.specs.Int.{int_div_euclid}
use Rattle.depth_rounding.specs.Steps.{step_at, IsShoalest}
use Rattle.depth_rounding.specs.Views.{from_view, steps_view}
use Rattle.depth_rounding.proofs.Floors.{floors, IsFloor}
use Rattle.depth_rounding.proofs.rounding.shoal.Goals as goal

-- the quotient is the floor of the depth by the step
quotient : (c : goal.After-div_euclid) → c.div_euclid.result ≡ int_div_euclid c.args.mm (pos 100 *ℤ c.step-step.result)
quotient c =
    let step = c.step-step.result in
    let f = floors step c.step-step.ensures.known c.args.mm in
    let mm_fits : FitsSigned w32 c.args.mm = c.ranges.mm in
    let step_fits : FitsSigned w32 step = omega (arith, ints, f.positive, f.small) in
    let product_fits : FitsSigned w32 (pos 100 *ℤ step) = omega (arith, ints, f.positive, f.small) in
    simp to_z-of_z at c.div_euclid.ensures

floor : (c : goal.After-div_euclid) → IsFloor c.step-step.result c.args.mm c.div_euclid.result
floor c = subst (IsFloor c.step-step.result c.args.mm) (sym (quotient c)) (floors c.step-step.result c.step-step.ensures.known c.args.mm)

product_fits : (c : goal.After-div_euclid) → FitsSigned w32 (c.step-step.result *ℤ c.div_euclid.result)
product_fits c =
    let f = floor c in
    omega (arith, ints, f.low, f.above c.requires.low)

pub overflow_mul-result : goal.overflow_mul-result
overflow_mul-result c =
    let f = floor c in
    let step_fits : FitsSigned w32 c.step-step.result = omega (arith, ints, f.positive, f.small) in
    let quotient_fits : FitsSigned w32 c.div_euclid.result = search rules in
    let fits = product_fits c in
    simp to_z-of_z fits

-- what is returned is the product
product : (c : goal.After-div_euclid) → to_z w32 (of_z w32 (to_z w32 (of_z w32 c.step-step.result) *ℤ to_z w32 (of_z w32 c.div_euclid.result))) ≡ c.step-step.result *ℤ c.div_euclid.result
product c =
    let f = floor c in
    let step_fits : FitsSigned w32 c.step-step.result = omega (arith, ints, f.positive, f.small) in
    let quotient_fits : FitsSigned w32 c.div_euclid.result = search rules in
    let fits = product_fits c in
    simp to_z-of_z

step_is : (c : goal.After-div_euclid) → c.step-step.result ≡ step_at (from_view c.args.bands.now) (steps_view c.args.bands.now) c.args.mm
step_is c =
    let mm_fits : FitsSigned w32 c.args.mm = c.ranges.mm in
    simp to_z-of_z at c.step-step.ensures.value

pub returns-clause-value : goal.returns-clause-value
returns-clause-value c = product c ∙ ap (λ q. c.step-step.result *ℤ q) (quotient c) ∙ ap (λ s. s *ℤ int_div_euclid c.args.mm (pos 100 *ℤ s)) (step_is c)

pub returns-clause-shoalest : goal.returns-clause-shoalest
returns-clause-shoalest c =
    let f = floor c in
    let whole : IsShoalest c.step-step.result c.args.mm (c.step-step.result *ℤ c.div_euclid.result) = record { whole = (c.div_euclid.result, refl); no_deeper = f.low; greatest = f.greatest } in
    let step = step_at (from_view c.args.bands.now) (steps_view c.args.bands.now) c.args.mm in
    subst (IsShoalest step c.args.mm) (sym (product c)) (subst (λ s. IsShoalest s c.args.mm (c.step-step.result *ℤ c.div_euclid.result)) (step_is c) whole)

pub returns-clause-no_deeper : goal.returns-clause-no_deeper
returns-clause-no_deeper c = rw (product c) (floor c).low

pub returns-clause-above : goal.returns-clause-above
returns-clause-above c = rw (product c) ((floor c).above c.requires.low)

pub returns-clause-below : goal.returns-clause-below
returns-clause-below c = rw (product c) (omega (arith, ints, (floor c).low))
