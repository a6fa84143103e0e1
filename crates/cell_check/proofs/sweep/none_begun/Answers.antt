use Rattle.cell_check.proofs.Beginnings.{none_begun}
use Rattle.cell_check.proofs.sweep.none_begun.Goals as goal

pub returns-else-from-rising : goal.returns-else-from-rising
returns-else-from-rising c none up = none_begun c.args.rising.now c.args.from c.args.h.y _ c.has_begun.result up c.if-from-rising.false c.has_begun.ensures none
