use Rattle.std.proofs.Common.{sym, ◌∙◌}
use Rattle.iso8211_codec.specs.Views.{rec_of}
use Rattle.iso8211_codec.proofs.Turns.{at_end, after_record, after_fault}
use Rattle.iso8211_codec.proofs.record.Records.next_rec.Goals as goal

pub returns-then-is_empty-clause-walk : goal.returns-then-is_empty-clause-walk
returns-then-is_empty-clause-walk c = at_end _ c.args.self.now.rest.now (sym c.is_empty.ensures ∙ c.if-is_empty.true)

pub returns-in-Ok-clause-walk : goal.returns-in-Ok-clause-walk
returns-in-Ok-clause-walk c = after_record c.args.self.now.at c.args.self.now.rest.now (rec_of c.in-Ok.record, c.in-Ok.rest.now) c.in-Ok.ensures.gives

pub returns-in-Err-clause-walk : goal.returns-in-Err-clause-walk
returns-in-Err-clause-walk c =
    after_fault c.args.self.now.at _ c.args.self.now.rest.now c.in-Err.fault (sym c.is_empty.ensures ∙ c.if-is_empty.false) c.in-Err.ensures.gives
