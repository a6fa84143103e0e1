use Rattle.std.proofs.Common.{None, get_or, refl, arith}
use Rattle.overview_grid.proofs.LeastLemmas.{between_more}
use Rattle.overview_grid.proofs.least.least_between.Goals as goal

pub loop-k-preserved : goal.loop-k-preserved
loop-k-preserved c =
    let values = c.args.values.now in
    let k = c.loop-k.k in
    let i = c.loop-k.invariant in
    record {
      some = omega (arith, i.some);
      least = between_more values c.args.first k c.loop-k.least (get_or values k None) c.lesser-least.result (omega (arith, i.some)) refl i.least c.lesser-least.ensures;
    }
