use Rattle.cell_writer.specs.Layout.{isolated_parts}
use Rattle.cell_writer.proofs.Adding.{three}
use Rattle.cell_writer.proofs.Made.{isolated_made}
use Rattle.cell_writer.proofs.vector.write_isolated.Goals as goal

pub write-requires : goal.write-requires
write-requires c =
    record { parts = isolated_parts c.args.place c.args.node.now; holds = three _ _ _ c.in_ok-begin.ensures c.in_ok-add_vector.ensures.adds c.in_ok-add_shape.ensures.adds; made = isolated_made c.args.place c.args.node.now c.requires }

pub returns-clause-items : goal.returns-clause-items
returns-clause-items c =
    c.write.ensures.items (isolated_parts c.args.place c.args.node.now) (three _ _ _ c.in_ok-begin.ensures c.in_ok-add_vector.ensures.adds c.in_ok-add_shape.ensures.adds)
