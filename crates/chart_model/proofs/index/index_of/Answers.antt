use Rattle.chart_model.proofs.Indexing.{index_from}
use Rattle.chart_model.proofs.index.index_of.Goals as goal

pub returns : goal.returns
returns c = index_from c.args.numbers.now _ _ c.in_ok-entries.ensures c.sort_unstable.ensures.permutation c.sort_unstable.ensures.sorted
