use Rattle.std.proofs.Common.{◌∙◌}
use Rattle.record_edits.proofs.Places.{put_found, put_new}
use Rattle.record_edits.proofs.attributes.put.Goals as goal

pub returns-in-Some : goal.returns-in-Some
returns-in-Some c = put_found c.args.attribute c.args.list.now.items c.deref.result.now c.in-Some.k c.deref.ensures.value c.in-Some.ensures

pub returns-in_ok-push-in-None : goal.returns-in_ok-push-in-None
returns-in_ok-push-in-None c = c.in_ok-push-in-None.ensures.items ∙ put_new c.args.attribute c.args.list.now.items c.deref.result.now c.deref.ensures.value c.in-None.ensures
