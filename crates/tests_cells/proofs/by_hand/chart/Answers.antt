use Rattle.tests_cells.proofs.WellFormed.{well_formed}
use Rattle.tests_cells.proofs.by_hand.chart.Goals as goal

pub new-requires : goal.new-requires
new-requires c = rw c.in_ok-parts.ensures well_formed
