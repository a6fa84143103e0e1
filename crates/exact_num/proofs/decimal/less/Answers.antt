use Rattle.std.proofs.Common.{◌≡◌, ◌∙◌, Bool, sym, ap}
use Rattle.exact_num.specs.Number.{Number}
use Rattle.exact_num.proofs.Orders.{both_above, both_below, below_above, above_below, as_test}
use Rattle.exact_num.proofs.decimal.less.Goals as goal

-- the sign of a number is that of its fields
sign_of : (inside now : Number) (s : Bool) → inside ≡ now → inside.negative ≡ s → now.negative ≡ s
sign_of inside now s is e = sym (ap (λ (n : Number). n.negative) is) ∙ e

pub returns-in-true-true-clause-test : goal.returns-in-true-true-clause-test
returns-in-true-true-clause-test c = as_test c.args.a.now c.args.b.now _ (both_below c.args.a.now c.args.b.now _ (sign_of _ _ _ c.a.view_is c.in-true-true.is-0, sign_of _ _ _ c.b.view_is c.in-true-true.is-1) c.is_smaller.ensures)

pub returns-in-true-false-clause-value : goal.returns-in-true-false-clause-value
returns-in-true-false-clause-value c = below_above c.args.a.now c.args.b.now _ (sign_of _ _ _ c.a.view_is c.in-true-false.is-0, sign_of _ _ _ c.b.view_is c.in-true-false.is-1) c.are_zero.ensures

pub returns-in-true-false-clause-test : goal.returns-in-true-false-clause-test
returns-in-true-false-clause-test c = as_test c.args.a.now c.args.b.now _ (returns-in-true-false-clause-value c)

pub returns-in-false-true-clause-test : goal.returns-in-false-true-clause-test
returns-in-false-true-clause-test c = as_test c.args.a.now c.args.b.now _ (above_below c.args.a.now c.args.b.now (sign_of _ _ _ c.a.view_is c.in-false-true.is-0, sign_of _ _ _ c.b.view_is c.in-false-true.is-1))

pub returns-in-false-false-clause-test : goal.returns-in-false-false-clause-test
returns-in-false-false-clause-test c = as_test c.args.a.now c.args.b.now _ (both_above c.args.a.now c.args.b.now _ (sign_of _ _ _ c.a.view_is c.in-false-false.is-0, sign_of _ _ _ c.b.view_is c.in-false-false.is-1) c.is_smaller-in-false-false.ensures)
