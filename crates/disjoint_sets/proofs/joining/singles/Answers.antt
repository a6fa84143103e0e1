use Rattle.disjoint_sets.proofs.Ways.{together_of_singles}
use Rattle.disjoint_sets.proofs.joining.singles.Goals as goal

pub returns-clause-apart : goal.returns-clause-apart
returns-clause-apart c = together_of_singles c.loop-item.parents.items c.loop-item.item c.loop-item.invariant.each c.loop-item.invariant.own
