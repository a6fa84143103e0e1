use Rattle.std.proofs.Common.{ltb, rules}
use Rattle.std.proofs.lemmas.List.Sorted.{IsPartitionPoint-from_clause, IsPartitionedBy-ltb}
use Rattle.chart_model.specs.declared.index.Entry.{Entry}
use Rattle.chart_model.proofs.Indexing.{lower_at, lower_from, rises}
use Rattle.chart_model.proofs.index.lower_bound.Goals as goal

pub returns-then-is_first_at : goal.returns-then-is_first_at
returns-then-is_first_at c = lower_at _ _ _ (c.is_first_at.ensures c.if-is_first_at.true)

pub returns-else-is_first_at : goal.returns-else-is_first_at
returns-else-is_first_at c = λ o.
    let parted = IsPartitionedBy-ltb (λ (e : Entry). e.number) _ c.args.number (rises c.args.entries.now o) in
    let point = IsPartitionPoint-from_clause (λ (e : Entry). ltb e.number c.args.number) _ _ c.partition_point.ensures.partitioned parted (λ a r q k. search rules) in
    lower_from _ _ _ c.partition_point.ensures.bound point.0 point.1
