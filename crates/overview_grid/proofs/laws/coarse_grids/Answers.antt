use Rattle.overview_grid.proofs.CoarseLemmas.{coarse_grids_are_overviews, overviews_are_grids, overviews_are_one}
use Rattle.overview_grid.proofs.laws.coarse_grids.Goals as goal

pub returns-clause-computed : goal.returns-clause-computed
returns-clause-computed c = coarse_grids_are_overviews

pub returns-clause-one : goal.returns-clause-one
returns-clause-one c = overviews_are_one

pub returns-clause-grids : goal.returns-clause-grids
returns-clause-grids c = overviews_are_grids
