-- Worked values of the sample.
use Rattle.std.proofs.Common.{◌≡◌, pos, neg_ℤ, Some, None, IsSome, refl, sym, subst, ◌∙◌, lit<}
use Rattle.depth_grid.specs.Grid.{depth_at}
use Rattle.chart_sample.specs.Sample.{sample_view}
use Rattle.chart_sample.proofs.Noded.{depth_of_node}

-- the north-western node of sample 0 lies a metre above datum
north_west : depth_at (sample_view 0) 0 0 ≡ Some (neg_ℤ (pos 1000))
north_west = depth_of_node 0 301 401 0 0 (lit< tt) (lit< tt) ∙ refl

-- the patch without data: its north-western and south-eastern nodes, and the node south of its south-western one
first_bare : depth_at (sample_view 0) 100 200 ≡ None
first_bare = depth_of_node 0 301 401 100 200 (lit< tt) (lit< tt) ∙ refl

last_bare : depth_at (sample_view 0) 119 239 ≡ None
last_bare = depth_of_node 0 301 401 119 239 (lit< tt) (lit< tt) ∙ refl

south_of_bare : IsSome (depth_at (sample_view 0) 120 200)
south_of_bare = subst IsSome (sym (depth_of_node 0 301 401 120 200 (lit< tt) (lit< tt))) refl
