use Rattle.cell_laws.proofs.Again.{reads_again}
use Rattle.cell_laws.proofs.cell_laws.Goals as goal

pub returns : goal.returns
returns c = reads_again c.record_laws.ensures c.field_laws.ensures c.whole_laws.ensures
