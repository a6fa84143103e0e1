use Rattle.update_reader.proofs.Sounds.{answer_is}
use Rattle.update_reader.proofs.reading.read_update.Goals as goal

pub returns-clause-read : goal.returns-clause-read
returns-clause-read c = answer_is c.record_laws.ensures c.args.bytes.now _ _ c.update_in.result c.in_ok-records.ensures c.update_in.ensures.gives c.update_in.ensures.texts
