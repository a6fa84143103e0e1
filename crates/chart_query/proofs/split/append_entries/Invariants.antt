use Rattle.std.proofs.Common.{◌≡◌, ◌≤◌, ◌++◌, map, drop}
use Rattle.chart_query.specs.Split.{entry_of, split_nodes}
use Rattle.chart_query.proofs.split.append_entries.Given as goal

abbrev pub invariant-loop-base : goal.invariant-loop-base
invariant-loop-base l = record {
  entries : l.entries.items ++ map (entry_of l.side) (split_nodes (drop l.base-index l.split.bases.items) l.from l.to) ≡ l.fn.entries.items ++ map (entry_of l.side) (split_nodes l.split.bases.items l.low l.high);
  from : l.from ≤ l.low;
  to : l.to ≤ l.high;
}
