use Rattle.disjoint_sets.specs.Views.{parents_of}
use Rattle.disjoint_sets.proofs.Hanging.{Walked}
use Rattle.disjoint_sets.proofs.forest.Forest.root.Given as goal

abbrev pub invariant-loop-at : goal.invariant-loop-at
invariant-loop-at l = Walked (parents_of l.fn.self) (parents_of l.self) l.item l.at

abbrev pub decreases-loop-at : goal.decreases-loop-at
decreases-loop-at l = l.at
