use Rattle.std.proofs.Common.{arith, length}
use Rattle.chart_compile.proofs.Radius.{none_large, one_or_each}
use Rattle.depth_rounding.specs.Views.{levels_view}
use Rattle.chart_compile.proofs.making.chosen_of.Goals as goal

pub select-requires-clause-count : goal.select-requires-clause-count
select-requires-clause-count c =
    let radii = c.args.radii in
    one_or_each radii.count (length (levels_view c.args.levels.now)) radii.radius (omega arith) c.requires.one_or_each

pub select-requires-clause-small : goal.select-requires-clause-small
select-requires-clause-small c = let radii = c.args.radii in none_large radii.count radii.radius (omega arith) c.requires.small
