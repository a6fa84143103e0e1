use Rattle.std.proofs.Common.{◌≡◌, ◌+◌, ◌<◌, ◌≤◌, pos, ◌*ℤ◌, to_z, of_z, w32, FitsSigned, length, get_or, take, sym, ◌∙◌, ap, arith, rules, length-take}
use Rattle.std.specs.Prelude.{count_by, int_le}
use Rattle.std.proofs.lemmas.Int.{to_z-of_z}
use Rattle.std.proofs.lemmas.List.{get_or-take}
use Rattle.depth_rounding.specs.Steps.{is_step, step_number}
use Rattle.depth_rounding.specs.Views.{from_view, steps_view}
use Rattle.depth_rounding.proofs.steps.Bands.step.Goals as goal

within : (c : goal.After-result-1) → c.begun.result < c.args.self.now.count + 1
within c =
    let b = c.args.self.now in
    let h : c.begun.result ≤ length (take b.count b.step_from) = c.begun.ensures.within in
    omega (arith, h, length-take b.count b.step_from)

-- what is read is the step of that number
read : (c : goal.After-result-1) → to_z w32 (of_z w32 (get_or c.args.self.now.steps c.begun.result (pos 0))) ≡ step_number (steps_view c.args.self.now) c.begun.result
read c =
    let b = c.args.self.now in
    let fits : FitsSigned w32 (get_or b.steps c.begun.result (pos 0)) = search rules in
    let one : get_or (take (b.count + 1) b.steps) c.begun.result (pos 0) ≡ get_or b.steps c.begun.result (pos 0) = get_or-take (b.count + 1) b.steps c.begun.result (pos 0) (within c) in
    let two : to_z w32 (of_z w32 (get_or b.steps c.begun.result (pos 0))) ≡ get_or b.steps c.begun.result (pos 0) = simp to_z-of_z in
    two ∙ sym one

pub returns-clause-value : goal.returns-clause-value
returns-clause-value c =
    let mm_fits : FitsSigned w32 c.args.mm = c.ranges.mm in
    let value : c.begun.result ≡ count_by (λ from. int_le (pos 100 *ℤ from) c.args.mm) (from_view c.args.self.now) = simp to_z-of_z at c.begun.ensures.value in
    read c ∙ ap (step_number (steps_view c.args.self.now)) value

pub returns-clause-known : goal.returns-clause-known
returns-clause-known c =
    let b = c.args.self.now in
    let few : c.begun.result ≤ length (take b.count b.step_from) = c.begun.ensures.within in
    ap is_step (read c) ∙ b.are_steps.known c.begun.result (omega (arith, few, b.are_steps.one_more))
