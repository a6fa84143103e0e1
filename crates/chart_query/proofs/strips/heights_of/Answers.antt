use Rattle.std.proofs.lemmas.List.Filters.{dedup_is}
use Rattle.chart_query.proofs.Heights.{sorted_heights}
use Rattle.chart_query.proofs.strips.heights_of.Goals as goal

pub returns : goal.returns
returns c = sorted_heights c.args.sides.now _ _ _ c.in_ok-heights.ensures.ends c.in_ok-heights.ensures.fit c.sort_unstable.ensures.permutation c.sort_unstable.ensures.sorted (dedup_is _ _ _ c.dedup.ensures.filtered)
