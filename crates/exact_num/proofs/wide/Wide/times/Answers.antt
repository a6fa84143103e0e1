use Rattle.std.proofs.Common.{◌≡◌, arith}
use Rattle.exact_num.proofs.Shifts.{huge_times, moved_times}
use Rattle.exact_num.proofs.wide.Wide.times.Goals as goal

pub returns-then-self-ne0-clause-none : goal.returns-then-self-ne0-clause-none
returns-then-self-ne0-clause-none c = huge_times c.args.self c.args.places 32 32 (omega (arith, c.self.view_is)) (omega arith)

pub returns-then-self-eq0-clause-some : goal.returns-then-self-eq0-clause-some
returns-then-self-eq0-clause-some c = let nothing : c.args.self ≡ 0 = omega (arith, c.self.view_is) in rw (c.zero.ensures, nothing) (omega arith)

pub returns-then-places-clause-none : goal.returns-then-places-clause-none
returns-then-places-clause-none c = huge_times c.args.self c.args.places 0 64 (omega (arith, c.self.view_is)) (omega arith)

pub returns-clause-some : goal.returns-clause-some
returns-clause-some c = rw (← moved_times c.args.self c.self.inside.high c.self.inside.low c.args.places c.self.view_is c.if-self-ne0.false (omega arith)) c.times_half-2.ensures.some

pub returns-clause-none : goal.returns-clause-none
returns-clause-none c = rw (← moved_times c.args.self c.self.inside.high c.self.inside.low c.args.places c.self.view_is c.if-self-ne0.false (omega arith)) c.times_half-2.ensures.none
