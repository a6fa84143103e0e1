use Rattle.std.proofs.Common.{◌<◌}
use Rattle.overview_grid.specs.Least.{IsLeastOf}
use Rattle.overview_grid.specs.Narrowed.{StandsBetween}
use Rattle.overview_grid.proofs.least.least_between.Given as goal

abbrev pub invariant-loop-k : goal.invariant-loop-k
invariant-loop-k l = record {
  some : l.first < l.k;
  least : IsLeastOf (StandsBetween l.values l.first l.k) l.least;
}
