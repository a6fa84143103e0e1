use Rattle.disjoint_sets.specs.Views.{parents_of}
use Rattle.disjoint_sets.proofs.Hanging.{walk_halved_as_coded, walk_ends_as_coded}
use Rattle.disjoint_sets.proofs.forest.Forest.root.Goals as goal

pub returns-then-parent-at-clause-root : goal.returns-then-parent-at-clause-root
returns-then-parent-at-clause-root c =
    walk_ends_as_coded (parents_of c.args.self.now) (parents_of c.loop-at.self) c.args.item c.loop-at.at c.loop-at.invariant c.index.result.now c.index.ensures c.if-parent-at.true

pub loop-at-preserved : goal.loop-at-preserved
loop-at-preserved c =
    walk_halved_as_coded (parents_of c.args.self.now) (parents_of c.loop-at.self) c.loop-at.self.sound c.args.item c.loop-at.at c.loop-at.invariant c.index.result.now c.index.ensures c.if-parent-at.false c.index-above.result.now c.index-above.ensures
