use Rattle.update_apply.proofs.Modified.{modified_list}
use Rattle.update_apply.proofs.deeds.modify.Goals as goal

pub returns : goal.returns
returns g c =
    modified_list _ c.args.number c.args.rver c.args.edit.now c.args.table.now c.replace.new.self c.in_ok-old.old.now c.in_ok-new.new
    c.in_ok-old.ensures c.in_ok-new.ensures.gives c.in_ok-new.ensures.number c.replace.ensures
