use Rattle.std.proofs.Common.{rules}
use Rattle.std.specs.Result.{IfErr}
use Rattle.chart_model.proofs.Wholeness.{only_memory, whole_from}
use Rattle.chart_model.specs.Whole.{first_fault, Refuses}
use Rattle.chart_model.proofs.model.Chart.new.Goals as goal

pub returns-in_err-indexes-clause-taken : goal.returns-in_err-indexes-clause-taken
returns-in_err-indexes-clause-taken c =
    let due : IfErr c.from_residual.result (Refuses (first_fault c.args.parts)) = search rules in
    λ w. only_memory c.args.parts c.from_residual.result due w

pub invariant_of-result : goal.invariant_of-result
invariant_of-result c = (whole_from c.args.parts c.requires c.in_ok-indexes.ensures.none, c.in_ok-indexes.ensures.indexes)

pub returns-clause-whole : goal.returns-clause-whole
returns-clause-whole c = whole_from c.args.parts c.requires c.in_ok-indexes.ensures.none
