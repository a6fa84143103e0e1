use Rattle.std.proofs.Common.{arith, rules}
use Rattle.std.proofs.lemmas.List.Sorted.{IsPartitionPoint-from_clause}
use Rattle.std.specs.Int.RustNames.{int_le}
use Rattle.chart_query.proofs.Heights.{counted, parted}
use Rattle.chart_query.proofs.strips.strip_of.Goals as goal

pub returns : goal.returns
returns c =
    let point = IsPartitionPoint-from_clause (λ h. int_le h c.args.y) _ _ c.partition_point.ensures.partitioned (parted c.args.y c.args.heights.now c.requires) (λ a r q k. search rules) in
    counted c.args.y c.args.heights.now c.partition_point.result c.partition_point.ensures.bound (λ k d h. point.0 k d (omega arith) h) (λ k d h l. point.1 k d h l)
