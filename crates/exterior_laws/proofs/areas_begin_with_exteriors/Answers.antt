use Rattle.exterior_laws.proofs.Charts.{areas_begin}
use Rattle.exterior_laws.proofs.areas_begin_with_exteriors.Goals as goal

pub returns : goal.returns
returns c = record { begins = areas_begin c.exterior_rings.ensures.sets c.truth_law.ensures.fields }
