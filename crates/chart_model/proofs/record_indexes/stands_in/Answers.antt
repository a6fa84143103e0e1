use Rattle.std.proofs.Common.{◌∙◌, eqb, ltb, ap₂}
use Rattle.chart_model.proofs.Finding.{any_at_all}
use Rattle.chart_model.proofs.record_indexes.stands_in.Goals as goal

pub returns : goal.returns
returns c = λ numbers x. ap₂ ltb (c.first.ensures numbers x) x.as_long ∙ any_at_all (λ m. eqb m c.args.number) numbers 0
