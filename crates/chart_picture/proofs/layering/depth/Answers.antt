use Rattle.std.proofs.Common.{subst, sym}
use Rattle.chart_picture.proofs.Painting.{IsEarthly, shoalest_is}
use Rattle.chart_picture.proofs.layering.depth.Goals as goal

pub returns-then-feature-eq-DEPARE-clause-small : goal.returns-then-feature-eq-DEPARE-clause-small
returns-then-feature-eq-DEPARE-clause-small c = subst IsEarthly (sym c.least_depth.ensures) (shoalest_is c.args.feature.now)
