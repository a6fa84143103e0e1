use Rattle.std.proofs.Common.{[], ◌∷◌, ◌++◌, codes}
use Rattle.cell_writer.specs.Layout.{dspm_of}
use Rattle.cell_writer.proofs.Adding.{added}
use Rattle.cell_writer.proofs.Texts.{is_text_from}
use Rattle.cell_writer.proofs.Values.{on_ok, dspm_fits}
use Rattle.s57_records.specs.Fields.{dspm}
use Rattle.s57_records.specs.Formats.{field_of}
use Rattle.cell_writer.proofs.data_set.add_dspm.Goals as goal

pub write_dspm-requires : goal.write_dspm-requires
write_dspm-requires c = rw c.as_slice.ensures (is_text_from c.args.header.now.note c.requires.note)

pub returns-clause-adds : goal.returns-clause-adds
returns-clause-adds c =
    let put = rw c.as_slice.ensures at c.in_ok-write_dspm.ensures in
    added c.end.result c.args.draft.now c.end.new.self (codes "DSPM") (field_of dspm (dspm_of c.args.header.now) ++ 30 ∷ []) c.write_dspm.new.out.items c.len-from.result c.len-from.ensures
    put c.end.ensures.tags c.end.ensures.lens c.end.ensures.bodies

pub returns-clause-fits : goal.returns-clause-fits
returns-clause-fits c =
    on_ok c.end.result (dspm_fits c.args.header.now c.requires c.byte_law.ensures c.byte_law-2.ensures c.byte_law-3.ensures c.long_law.ensures c.byte_law-4.ensures c.byte_law-5.ensures)
