use Rattle.std.proofs.Common.{sym}
use Rattle.iso8211_codec.proofs.Entries.{parts_length}
use Rattle.iso8211_codec.proofs.record.RawRec.count.Goals as goal

pub returns-clause-count : goal.returns-clause-count
returns-clause-count c = sym (parts_length _ _ _ _)
