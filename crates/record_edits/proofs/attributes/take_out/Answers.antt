use Rattle.std.proofs.Common.{◌∙◌}
use Rattle.record_edits.proofs.Places.{taken_out, not_there}
use Rattle.record_edits.proofs.attributes.take_out.Goals as goal

pub returns-in-Some : goal.returns-in-Some
returns-in-Some c = c.remove.ensures.items ∙ taken_out c.args.code c.remove.result c.args.list.now.items c.deref.result.now c.in-Some.k c.deref.ensures.value c.in-Some.ensures

pub returns-in_default : goal.returns-in_default
returns-in_default c = not_there c.args.code c.args.list.now.items c.deref.result.now c.deref.ensures.value c.in_default.ensures
