use Rattle.std.proofs.Common.{◌≡◌, take}
use Rattle.record_edits.specs.Attributes.{attributes_after}
use Rattle.record_edits.proofs.attributes.attributes_after.Given as goal

abbrev pub invariant-loop-attribute : goal.invariant-loop-attribute
invariant-loop-attribute l = l.list.items ≡ attributes_after (take l.attribute-index l.given) l.fn.old
