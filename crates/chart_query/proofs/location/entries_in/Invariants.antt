use Rattle.std.proofs.Common.{◌≡◌, take}
use Rattle.chart_query.specs.Ready.{entries_of}
use Rattle.chart_query.proofs.location.entries_in.Given as goal

abbrev pub invariant-loop-side : goal.invariant-loop-side
invariant-loop-side l = l.entries.items ≡ entries_of l.heights l.split.bases.items l.split.heights (take l.side-index l.sides)
