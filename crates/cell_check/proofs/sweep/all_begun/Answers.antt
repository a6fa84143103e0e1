use Rattle.std.proofs.Common.{arith}
use Rattle.cell_check.proofs.Beginnings.{all_begun}
use Rattle.cell_check.proofs.sweep.all_begun.Goals as goal

pub returns-then-to-rising : goal.returns-then-to-rising
returns-then-to-rising c begun up = all_begun c.args.rising.now c.args.to c.args.h.y _ c.has_begun.result up (omega arith) (omega arith) c.has_begun.ensures begun
