use Rattle.cell_writer.specs.Layout.{data_set_parts}
use Rattle.cell_writer.proofs.Adding.{three}
use Rattle.cell_writer.proofs.Made.{data_set_made}
use Rattle.cell_writer.proofs.Values.{on_ok}
use Rattle.cell_writer.proofs.data_set.write_data_set.Goals as goal

pub write-requires : goal.write-requires
write-requires c =
    record { parts = data_set_parts 1 c.args.parts.now; holds = three _ _ _ c.in_ok-begin.ensures c.in_ok-add_dsid.ensures.adds c.in_ok-add_dssi.ensures.adds; made = data_set_made 1 c.args.parts.now c.requires.short }

pub returns-clause-items : goal.returns-clause-items
returns-clause-items c =
    c.write.ensures.items (data_set_parts 1 c.args.parts.now) (three _ _ _ c.in_ok-begin.ensures c.in_ok-add_dsid.ensures.adds c.in_ok-add_dssi.ensures.adds)

pub returns-clause-identity : goal.returns-clause-identity
returns-clause-identity c = on_ok c.write.result c.in_ok-add_dsid.ensures.fits
