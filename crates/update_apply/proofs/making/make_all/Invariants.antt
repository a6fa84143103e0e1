use Rattle.std.proofs.Common.{◌≡◌, drop}
use Rattle.update_apply.specs.Making.{parts_after}
use Rattle.update_apply.proofs.making.make_all.Given as goal

abbrev pub invariant-loop-change : goal.invariant-loop-change
invariant-loop-change l = parts_after (drop l.change-index l.changes) l.draft ≡ parts_after l.changes l.initial.draft
