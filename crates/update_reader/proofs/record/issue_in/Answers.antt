use Rattle.update_reader.proofs.Sounds.{issue_sound}
use Rattle.update_reader.proofs.record.issue_in.Goals as goal

pub returns-clause-texts : goal.returns-clause-texts
returns-clause-texts c = issue_sound c.in-Some.dsid c.args.body.now _ _ _ _ c.in-Some.ensures c.in_ok-text_of.ensures c.in_ok-text_of-2.ensures
