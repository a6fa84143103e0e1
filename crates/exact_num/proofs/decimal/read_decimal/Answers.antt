use Rattle.std.proofs.Common.{arith, sym, ◌∙◌}
use Rattle.exact_num.proofs.Texts.{made}
use Rattle.exact_num.proofs.decimal.read_decimal.Goals as goal

pub returns-clause-ok : goal.returns-clause-ok
returns-clause-ok c =
    made c.args.text.now c.sign-negative.result.1.now c.digits-whole.result.2.now c.point-all.result.2.now c.sign-negative.result.0
    c.digits-whole.result.0 c.point-all.result.0 c.digits-whole.result.1 c.point-all.result.1 c.in-Some.raised c.in-Some.lowered (omega arith)
    c.sign-negative.ensures.minus c.sign-negative.ensures.rest (rw c.zero.ensures at c.digits-whole.ensures.number) c.digits-whole.ensures.count c.digits-whole.ensures.rest
    c.point-all.ensures.number c.point-all.ensures.count c.point-all.ensures.rest c.if-count-eq0.false (sym c.power.ensures.value ∙ c.in-Some.is)
