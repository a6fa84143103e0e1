use Rattle.record_size_laws.proofs.Records.Whole.{made_fit}
use Rattle.record_size_laws.proofs.records_of_made_parts_fit.Goals as goal

pub returns : goal.returns
returns c = record { fit = made_fit }
