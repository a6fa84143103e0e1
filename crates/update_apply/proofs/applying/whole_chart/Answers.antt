use Rattle.std.proofs.lemmas.Result.{err_from_is_err_and}
use Rattle.update_apply.proofs.Causes.{refused}
use Rattle.update_apply.proofs.applying.whole_chart.Goals as goal

pub returns-in_err-new-clause-due : goal.returns-in_err-new-clause-due
returns-in_err-new-clause-due c =
    let p = err_from_is_err_and c.from_residual.result c.from_residual.ensures.1 in
    rw (p.1, p.2) (refused c.args.parts c.in_err-new.field-0.0 c.requires.once c.in_err-new.ensures.refused)
