use Rattle.std.proofs.Common.{set, sym, subst, true, false, arith}
use Rattle.chains.specs.Tracing.{Walks}
use Rattle.chains.proofs.Resting.{mark_as_coded}
use Rattle.chains.proofs.Walking.{walk_steps, walk_is_traced, walk_is_settled, start_is_taken}
use Rattle.chains.proofs.follow.Goals as goal

pub loop-half-preserved : goal.loop-half-preserved
loop-half-preserved c =
    let lines = c.args.lines.now in
    let half = c.loop-half.half in
    let used = c.args.used.now.items in
    let w = c.loop-half.invariant in
    let fresh = mark_as_coded c.loop-half.used.items half.line c.index.result.now false c.index.ensures (omega (arith, w.takes.wide, w.inside)) c.loop-half-test.true in
    subst (λ z. Walks lines used z (set c.loop-half.used.items half.line true) c.args.start c.onward-half.result) (sym c.in_ok-push.ensures.items) (walk_steps lines used c.loop-half.path.items c.loop-half.used.items c.args.start half w fresh c.onward-half.result c.onward-half.ensures)

pub returns-clause-traced : goal.returns-clause-traced
returns-clause-traced c =
    let r = c.requires in
    let w = c.loop-half.invariant in
    let taken = mark_as_coded c.loop-half.used.items c.loop-half.half.line c.index.result.now true c.index.ensures (omega (arith, w.takes.wide, w.inside)) c.loop-half-test.false in
    walk_is_traced c.args.lines.now c.args.used.now.items r.settled c.loop-half.path.items c.loop-half.used.items c.args.start c.loop-half.half r.new r.begins w taken

pub returns-clause-settled : goal.returns-clause-settled
returns-clause-settled c =
    let r = c.requires in
    let w = c.loop-half.invariant in
    let taken = mark_as_coded c.loop-half.used.items c.loop-half.half.line c.index.result.now true c.index.ensures (omega (arith, w.takes.wide, w.inside)) c.loop-half-test.false in
    walk_is_settled c.args.lines.now c.args.used.now.items r.settled c.loop-half.path.items c.loop-half.used.items c.args.start c.loop-half.half r.new r.begins w taken

pub returns-clause-taken : goal.returns-clause-taken
returns-clause-taken c =
    let r = c.requires in
    let w = c.loop-half.invariant in
    let taken = mark_as_coded c.loop-half.used.items c.loop-half.half.line c.index.result.now true c.index.ensures (omega (arith, w.takes.wide, w.inside)) c.loop-half-test.false in
    start_is_taken c.args.lines.now c.args.used.now.items r.settled c.loop-half.path.items c.loop-half.used.items c.args.start c.loop-half.half r.new r.begins w taken
