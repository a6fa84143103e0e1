use Rattle.std.proofs.Common.{cond, sum_by}
use Rattle.chains.specs.Tracing.{Walks}
use Rattle.chains.proofs.follow.Given as goal

abbrev pub invariant-loop-half : goal.invariant-loop-half
invariant-loop-half l = Walks l.lines l.fn.used.items l.path.items l.used.items l.fn.start l.half

abbrev pub decreases-loop-half : goal.decreases-loop-half
decreases-loop-half l = sum_by (λ u. cond u 0 1) l.used.items
