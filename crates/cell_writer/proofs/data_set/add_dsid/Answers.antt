use Rattle.std.proofs.Common.{[], ◌∷◌, ◌++◌, codes}
use Rattle.cell_writer.specs.Layout.{dsid_of}
use Rattle.cell_writer.proofs.Adding.{added}
use Rattle.cell_writer.proofs.Texts.{all_texts}
use Rattle.cell_writer.proofs.Values.{on_ok, dsid_fits}
use Rattle.s57_records.specs.Fields.{dsid}
use Rattle.s57_records.specs.Formats.{field_of}
use Rattle.cell_writer.proofs.data_set.add_dsid.Goals as goal

pub write_dsid-requires : goal.write_dsid-requires
write_dsid-requires c = rw (c.as_slice.ensures, c.as_slice-2.ensures, c.as_slice-3.ensures, c.as_slice-4.ensures, c.as_slice-5.ensures, c.as_slice-6.ensures) (all_texts c.args.header.now c.requires)

pub returns-clause-adds : goal.returns-clause-adds
returns-clause-adds c =
    let put = rw (c.as_slice.ensures, c.as_slice-2.ensures, c.as_slice-3.ensures, c.as_slice-4.ensures, c.as_slice-5.ensures, c.as_slice-6.ensures) at c.in_ok-write_dsid.ensures in
    added c.end.result c.args.draft.now c.end.new.self (codes "DSID") (field_of dsid (dsid_of c.args.header.now) ++ 30 ∷ []) c.write_dsid.new.out.items c.len-from.result c.len-from.ensures
    put c.end.ensures.tags c.end.ensures.lens c.end.ensures.bodies

pub returns-clause-fits : goal.returns-clause-fits
returns-clause-fits c =
    on_ok c.end.result (dsid_fits c.args.header.now c.requires c.byte_law.ensures c.byte_law-2.ensures c.byte_law-3.ensures c.byte_law-4.ensures c.word_law.ensures
    c.eight_law.ensures c.eight_law-2.ensures c.four_law.ensures)
