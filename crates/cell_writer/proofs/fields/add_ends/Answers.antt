use Rattle.std.proofs.Common.{[], ◌∷◌, ◌++◌, codes}
use Rattle.cell_writer.specs.Layout.{end_values}
use Rattle.cell_writer.proofs.Adding.{added, two_and_end}
use Rattle.s57_records.specs.Fields.{vrpt}
use Rattle.s57_records.specs.Formats.{field_of}
use Rattle.cell_writer.proofs.fields.add_ends.Goals as goal

pub returns-clause-adds : goal.returns-clause-adds
returns-clause-adds c =
    let first = field_of vrpt (end_values 1 c.args.first) in
    let last = field_of vrpt (end_values 2 c.args.last) in
    added c.end.result c.args.draft.now c.end.new.self (codes "VRPT") ((first ++ (last ++ [])) ++ 30 ∷ []) c.close.new.out.items c.len-from.result c.len-from.ensures
    (two_and_end c.args.draft.now.bodies.items c.put_end.new.bodies.items c.put_end-2.new.bodies.items c.close.new.out.items first last (30 ∷ []) c.in_ok-put_end.ensures.items c.in_ok-put_end-2.ensures.items c.in_ok-close.ensures)
    c.end.ensures.tags c.end.ensures.lens c.end.ensures.bodies
