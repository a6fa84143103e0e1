use Rattle.std.proofs.Common.{map}
use Rattle.ring_builder.specs.Lists.{AreEmpty}
use Rattle.ring_builder.proofs.parts.empty_lists.Given as goal

abbrev pub invariant-loop-k : goal.invariant-loop-k
invariant-loop-k l = AreEmpty l._k (map (λ v. v.items) l.lists.items)
