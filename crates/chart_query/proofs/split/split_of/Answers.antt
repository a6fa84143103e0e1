use Rattle.std.proofs.Common.{◌≡◌, [], refl, subst, arith}
use Rattle.std.proofs.lemmas.List.{append-nil}
use Rattle.chart_query.specs.Split.{IsSplit}
use Rattle.chart_query.proofs.split.split_of.Goals as goal

pub returns-clause-split : goal.returns-clause-split
returns-clause-split c =
    let none : c.loop-left.left ≡ 0 = omega arith in
    subst (λ t. IsSplit t 1 c.args.last c.loop-left.base) (append-nil c.loop-left.bases.items) (c.loop-left.invariant.so_far [] c.loop-left.base (none, refl))
