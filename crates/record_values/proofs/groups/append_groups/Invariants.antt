use Rattle.std.proofs.Common.{◌≡◌, ◌++◌}
use Rattle.record_values.specs.Groups.{each}
use Rattle.record_values.proofs.groups.append_groups.Given as goal

abbrev pub invariant-loop-k : goal.invariant-loop-k
invariant-loop-k g l = l.list.items ≡ l.fn.list.items ++ each (g.G.Group.at l.body) l.k
