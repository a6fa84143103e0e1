use Rattle.disjoint_sets.specs.Views.{parents_of}
use Rattle.disjoint_sets.proofs.Counting.{Counted}
use Rattle.disjoint_sets.proofs.forest.Forest.into_numbers.Given as goal

abbrev pub invariant-loop-item : goal.invariant-loop-item
invariant-loop-item l = Counted (parents_of l.fn.self) l.numbers.items l.item l.count
