use Rattle.std.proofs.Common.{length}
use Rattle.cell_reader.specs.Views.{contents_of}
use Rattle.cell_reader.proofs.Sounds.{file_sound, answer_is}
use Rattle.cell_reader.proofs.reading.read_cell.Goals as goal

pub finish-requires-clause-sound : goal.finish-requires-clause-sound
finish-requires-clause-sound c = file_sound c.record_laws.ensures c.args.bytes.now _ _ (contents_of c.in_ok-all.all) c.in_ok-records.ensures c.in_ok-all.ensures

pub returns-clause-measured : goal.returns-clause-measured
returns-clause-measured c =
    let sound = file_sound c.record_laws.ensures c.args.bytes.now _ _ (contents_of c.in_ok-all.all) c.in_ok-records.ensures c.in_ok-all.ensures in
    (answer_is (length c.args.bytes.now) (contents_of c.in_ok-all.all) c.finish.result sound c.finish.ensures).0

pub returns-clause-within : goal.returns-clause-within
returns-clause-within c =
    let sound = file_sound c.record_laws.ensures c.args.bytes.now _ _ (contents_of c.in_ok-all.all) c.in_ok-records.ensures c.in_ok-all.ensures in
    (answer_is (length c.args.bytes.now) (contents_of c.in_ok-all.all) c.finish.result sound c.finish.ensures).1
