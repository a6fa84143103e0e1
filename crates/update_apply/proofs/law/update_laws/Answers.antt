use Rattle.update_apply.proofs.Others.{leaves_others}
use Rattle.update_apply.proofs.Once.{keeps_once}
use Rattle.update_apply.proofs.Steps.{EditLaws}
use Rattle.update_apply.proofs.law.update_laws.Goals as goal

pub returns : goal.returns
returns c =
    let laws : EditLaws = record { isolated = c.edit_laws.ensures.isolated; connected = c.edit_laws.ensures.connected; edge = c.edit_laws.ensures.edge; feature = c.edit_laws.ensures.feature } in
    record { others = leaves_others laws; once = keeps_once laws }
