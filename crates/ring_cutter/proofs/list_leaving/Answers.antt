use Rattle.std.proofs.Common.{length, arith}
use Rattle.ring_cutter.specs.Rings.{begins}
use Rattle.ring_cutter.proofs.Links.{arc_listed_as_coded}
use Rattle.ring_cutter.proofs.list_leaving.Goals as goal

pub loop-a-preserved : goal.loop-a-preserved
loop-a-preserved c =
    let hops = c.args.hops.now in
    let inv = c.loop-a.invariant in
    let r = arc_listed_as_coded (begins hops) (length c.args.first.now.items) c.loop-a.a c.loop-a.first.items c.loop-a.next.items inv.lists inv.each (c.requires.balanced.begin_inside c.loop-a.a (omega arith)) c.begin_of-p.result c.begin_of-p.ensures c.index.result.now c.index.ensures c.push.new.self.items c.in_ok-push.ensures.items in
    record { lists = r.0; each = r.1 }
