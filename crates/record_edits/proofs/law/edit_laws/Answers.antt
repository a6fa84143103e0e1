use Rattle.record_edits.proofs.Kept.{keeps_feature}
use Rattle.record_edits.proofs.law.edit_laws.Goals as goal

pub returns-clause-feature : goal.returns-clause-feature
returns-clause-feature c = keeps_feature
