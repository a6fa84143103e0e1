use Rattle.cell_writer.specs.Layout.{connected_parts}
use Rattle.cell_writer.proofs.Adding.{three}
use Rattle.cell_writer.proofs.Made.{connected_made}
use Rattle.cell_writer.proofs.vector.write_connected.Goals as goal

pub write-requires : goal.write-requires
write-requires c =
    record { parts = connected_parts c.args.place c.args.node; holds = three _ _ _ c.in_ok-begin.ensures c.in_ok-add_vector.ensures.adds c.in_ok-add_point.ensures.adds; made = connected_made c.args.place c.args.node c.requires }

pub returns-clause-items : goal.returns-clause-items
returns-clause-items c =
    c.write.ensures.items (connected_parts c.args.place c.args.node) (three _ _ _ c.in_ok-begin.ensures c.in_ok-add_vector.ensures.adds c.in_ok-add_point.ensures.adds)
