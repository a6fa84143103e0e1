use Rattle.parts_laws.proofs.Faultless.Whole.{made_faultless}
use Rattle.parts_laws.proofs.made_parts_are_faultless.Goals as goal

pub returns : goal.returns
returns c = record { faultless = made_faultless }
