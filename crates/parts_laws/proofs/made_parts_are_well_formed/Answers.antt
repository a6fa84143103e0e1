use Rattle.parts_laws.proofs.WellFormed.Whole.{made_parts}
use Rattle.parts_laws.proofs.made_parts_are_well_formed.Goals as goal

pub returns : goal.returns
returns c = record { formed = made_parts c.piece_laws.ensures.once c.face_laws.ensures.apart }
