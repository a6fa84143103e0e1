use Rattle.std.proofs.Common.{drop}
use Rattle.chart_query.proofs.Looking.{Walks}
use Rattle.chart_query.specs.Split.{way_nodes}
use Rattle.chart_query.proofs.location.Locator.at.Given as goal

abbrev pub invariant-loop-base : goal.invariant-loop-base
invariant-loop-base l = Walks l.p l.self-inside.buckets.ends.items l.self-inside.buckets.sides.items (way_nodes l.self-inside.split.bases.items l.strip) (way_nodes (drop l.base-index l.self-inside.split.bases.items) l.node) l.inside.items
