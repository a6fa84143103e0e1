use Rattle.std.proofs.Common.{[], ◌∷◌, ◌++◌, codes}
use Rattle.cell_writer.specs.Layout.{dssi_of}
use Rattle.cell_writer.proofs.Adding.{added}
use Rattle.cell_writer.proofs.Values.{on_ok, dssi_fits}
use Rattle.s57_records.specs.Fields.{dssi}
use Rattle.s57_records.specs.Formats.{field_of}
use Rattle.cell_writer.proofs.data_set.add_dssi.Goals as goal

pub returns-clause-adds : goal.returns-clause-adds
returns-clause-adds c =
    let put = rw (c.objects.ensures.count, c.objects-2.ensures.count, c.geo_objects.ensures.count, c.objects-3.ensures.count, c.as_slice-features.ensures, c.as_slice.ensures, c.as_slice-2.ensures, c.as_slice-3.ensures) at c.in_ok-write_dssi.ensures in
    added c.end.result c.args.draft.now c.end.new.self (codes "DSSI") (field_of dssi (dssi_of c.args.parts.now) ++ 30 ∷ []) c.write_dssi.new.out.items c.len-from.result c.len-from.ensures
    put c.end.ensures.tags c.end.ensures.lens c.end.ensures.bodies

pub returns-clause-fits : goal.returns-clause-fits
returns-clause-fits c =
    let features = c.as_slice-features.ensures in
    on_ok c.end.result (dssi_fits c.args.parts.now c.byte_law.ensures c.byte_law-2.ensures
    (rw (c.objects.ensures.count, features) at c.objects.ensures.few) (rw (c.objects-2.ensures.count, features) at c.objects-2.ensures.few)
    (rw (c.geo_objects.ensures.count, features) at c.geo_objects.ensures.few) (rw (c.objects-3.ensures.count, features) at c.objects-3.ensures.few)
    c.requires.few_isolated c.requires.few_connected c.requires.few_edges)
