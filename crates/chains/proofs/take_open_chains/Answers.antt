use Rattle.chains.proofs.Resting.{open_more}
use Rattle.chains.proofs.take_open_chains.Goals as goal

pub loop-i-preserved : goal.loop-i-preserved
loop-i-preserved c =
    let e = c.in_ok-take_from_junction.ensures in
    let f = c.in_ok-take_from_junction-2.ensures in
    record {
      rests = f.rests;
      taken = open_more c.args.lines.now c.loop-i.i c.loop-i.used.items c.take_from_junction.new.used.items c.take_from_junction-in-loop-i.new.used.items c.loop-i.invariant.taken e.grows f.grows e.taken f.taken;
    }
