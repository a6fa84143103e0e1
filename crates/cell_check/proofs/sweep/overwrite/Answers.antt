use Rattle.std.proofs.Common.{◌∙◌, ◌+◌, pos, ap, get_or, set, arith}
use Rattle.cell_check.specs.declared.entry.Entry.{Entry}
use Rattle.cell_check.specs.declared.owners.Owners.TheVariants.{Nobody}
use Rattle.cell_check.proofs.Splicing.{overwrites}
use Rattle.cell_check.proofs.sweep.overwrite.Goals as goal

pub loop-i-preserved : goal.loop-i-preserved
loop-i-preserved c =
    let d : Entry = record { line = record { seg = record { a = record { x = pos 0; y = pos 0 }; b = record { x = pos 0; y = pos 0 } }; owner = 0 }; west = record { areas = Nobody; covers = Nobody } } in
    ap (λ t. set t (c.args.from + c.loop-i.i) (get_or c.args.entries.now c.loop-i.i d)) c.loop-i.invariant ∙ overwrites c.args.row.now c.args.entries.now c.args.from c.loop-i.i d c.requires (omega arith)
