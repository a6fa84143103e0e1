use Rattle.depth_grid.specs.Views.{grid_view}
use Rattle.overview_grid.proofs.PlaceLemmas.{coarse_places, coarse_rises, coarse_falls}
use Rattle.overview_grid.proofs.CoarseLemmas.{overviews_are_one}
use Rattle.overview_grid.proofs.NarrowLemmas.{least_limited, overview_of}
use Rattle.overview_grid.proofs.coarsening.overview.Goals as goal

pub new-requires-clause-columns : goal.new-requires-clause-columns
new-requires-clause-columns c = let g = c.args.grid.now in coarse_places g.xs.items c.in_ok-xs.xs.items c.args.factor 1800000000 c.requires.factor c.requires.columns c.in_ok-xs.ensures g.columns

pub new-requires-clause-rows : goal.new-requires-clause-rows
new-requires-clause-rows c = let g = c.args.grid.now in coarse_places g.ys.items c.in_ok-ys.ys.items c.args.factor 900000000 c.requires.factor c.requires.rows c.in_ok-ys.ensures g.rows

pub new-requires-clause-eastwards : goal.new-requires-clause-eastwards
new-requires-clause-eastwards c = let g = c.args.grid.now in coarse_rises g.xs.items c.in_ok-xs.xs.items c.args.factor 1800000000 c.requires.factor c.requires.columns c.in_ok-xs.ensures g.eastwards

pub new-requires-clause-southwards : goal.new-requires-clause-southwards
new-requires-clause-southwards c = let g = c.args.grid.now in coarse_falls g.ys.items c.in_ok-ys.ys.items c.args.factor 900000000 c.requires.factor c.requires.rows c.in_ok-ys.ensures g.southwards

pub new-requires-clause-limited : goal.new-requires-clause-limited
new-requires-clause-limited c = least_limited (grid_view c.args.grid.now) c.args.factor c.in_ok-depths.depths.items c.args.grid.now.limited c.in_ok-depths.ensures

pub returns : goal.returns
returns c =
    let g = grid_view c.args.grid.now in
    let coarse = grid_view c.new.result in
    let is = overview_of g coarse c.args.factor c.in_ok-xs.xs.items c.in_ok-ys.ys.items c.in_ok-depths.depths.items c.new.ensures.xs c.new.ensures.ys c.new.ensures.depths c.new.result.full c.in_ok-xs.ensures c.in_ok-ys.ensures c.in_ok-depths.ensures in
    record { overview = is; computed = overviews_are_one g coarse c.args.factor (record { some = c.requires.factor; rows = c.requires.rows; columns = c.requires.columns }) is }
