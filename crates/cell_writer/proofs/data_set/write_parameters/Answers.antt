use Rattle.std.proofs.Common.{[], ◌∷◌}
use Rattle.cell_writer.specs.Layout.{parameter_parts, id}
use Rattle.cell_writer.proofs.Adding.{then}
use Rattle.cell_writer.proofs.Made.{parameters_made}
use Rattle.cell_writer.proofs.data_set.write_parameters.Goals as goal

pub write-requires : goal.write-requires
write-requires c =
    record { parts = parameter_parts 2 c.args.header.now; holds = then (id 2 ∷ []) _ c.in_ok-begin.ensures c.in_ok-add_dspm.ensures.adds; made = parameters_made 2 c.args.header.now c.requires.short }

pub returns-clause-items : goal.returns-clause-items
returns-clause-items c =
    c.write.ensures.items (parameter_parts 2 c.args.header.now) (then (id 2 ∷ []) _ c.in_ok-begin.ensures c.in_ok-add_dspm.ensures.adds)
