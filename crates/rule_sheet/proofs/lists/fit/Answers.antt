use Rattle.std.proofs.Common.{◌≡◌, ◌+◌, pos, w64, FitsSigned, get_or, sym, ◌∙◌, arith, rules}
use Rattle.std.specs.Prelude.{int_rem}
use Rattle.std.specs.Ordering.{int_eq}
use Rattle.std.proofs.lemmas.Int.{to_z-of_z}
use Rattle.rule_sheet.proofs.Tests.{fit-stops, fit-goes-on, steps-range}
use Rattle.rule_sheet.proofs.lists.fit.Goals as goal

pub is_multiple-requires : goal.is_multiple-requires
is_multiple-requires c =
    let steps = c.args.steps.now in
    let k = c.loop-k.k in
    let r = steps-range steps (k + 1) (pos 0) c.requires (omega arith) in
    let fits : FitsSigned w64 (get_or steps (k + 1) (pos 0)) = search rules in
    record { positive = simp to_z-of_z r.0; small = simp to_z-of_z r.1 }

pub returns-then-not-is_multiple : goal.returns-then-not-is_multiple
returns-then-not-is_multiple c =
    let zs = c.args.step_from.now in
    let steps = c.args.steps.now in
    let k = c.loop-k.k in
    let depth_fits : FitsSigned w64 (get_or zs k (pos 0)) = search rules in
    let step_fits : FitsSigned w64 (get_or steps (k + 1) (pos 0)) = search rules in
    let value : c.is_multiple.result ≡ int_eq (int_rem (get_or zs k (pos 0)) (get_or steps (k + 1) (pos 0))) (pos 0) = simp to_z-of_z at c.is_multiple.ensures in
    fit-stops zs steps k c.if-steps-step_from.false c.loop-k-test.true c.loop-k.invariant (sym value ∙ c.if-not-is_multiple.true)

pub loop-k-preserved : goal.loop-k-preserved
loop-k-preserved c =
    let zs = c.args.step_from.now in
    let steps = c.args.steps.now in
    let k = c.loop-k.k in
    let depth_fits : FitsSigned w64 (get_or zs k (pos 0)) = search rules in
    let step_fits : FitsSigned w64 (get_or steps (k + 1) (pos 0)) = search rules in
    let value : c.is_multiple.result ≡ int_eq (int_rem (get_or zs k (pos 0)) (get_or steps (k + 1) (pos 0))) (pos 0) = simp to_z-of_z at c.is_multiple.ensures in
    fit-goes-on zs steps k c.if-steps-step_from.false c.loop-k-test.true c.loop-k.invariant (sym value ∙ c.if-not-is_multiple.false)
