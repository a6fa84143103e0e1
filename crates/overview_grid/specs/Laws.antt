-- Laws of overviews.
use Rattle.std.specs.Prelude.{◌≡◌, ℕ, ◌<◌, ◌≤◌, length}
use Rattle.depth_grid.specs.Grid.{GridView, IsGrid}
use Rattle.overview_grid.specs.Coarse.{coarse_grid}
use Rattle.overview_grid.specs.Overview.{IsOverview}

-- a factor by which a grid has an overview
pub record IsFactor (g : GridView) (factor : ℕ) : Type 0 where
  pub some : 1 ≤ factor
  pub rows : factor < length g.ys
  pub columns : factor < length g.xs

-- the computed grid is an overview
abbrev pub CoarseGridsAreOverviews : Type 0
CoarseGridsAreOverviews = (g : GridView) (factor : ℕ) → IsFactor g factor → IsOverview g factor (coarse_grid g factor)

-- and the only one
abbrev pub OverviewsAreOne : Type 0
OverviewsAreOne = (g c : GridView) (factor : ℕ) → IsFactor g factor → IsOverview g factor c → c ≡ coarse_grid g factor

-- an overview of a grid keeps what every grid keeps
abbrev pub OverviewsAreGrids : Type 0
OverviewsAreGrids = (g c : GridView) (factor : ℕ) → IsGrid g → IsFactor g factor → IsOverview g factor c → IsGrid c
