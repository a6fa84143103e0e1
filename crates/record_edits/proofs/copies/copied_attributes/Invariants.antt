use Rattle.std.proofs.Common.{◌≡◌, take}
use Rattle.record_edits.proofs.copies.copied_attributes.Given as goal

abbrev pub invariant-loop-attribute : goal.invariant-loop-attribute
invariant-loop-attribute l = l.list.items ≡ take l.attribute-index l.attributes
