use Rattle.std.proofs.Common.{◌∙◌, length, ap}
use Rattle.depth_grid.specs.Views.{grid_view}
use Rattle.overview_grid.specs.Overview.{coarse_count}
use Rattle.overview_grid.specs.Narrowed.{AreNarrowed, AreLeastDepths}
use Rattle.overview_grid.proofs.NarrowLemmas.{moved, twice, ok_map}
use Rattle.overview_grid.proofs.coarsening.least_depths.Goals as goal

pub returns : goal.returns
returns c =
    let g = grid_view c.args.grid.now in
    let factor = c.args.factor in
    let narrowed = c.in_ok-narrowed.narrowed.items in
    let columns = coarse_count (length g.xs) factor in
    let along_rows = moved c.depths.result.now g.depths narrowed c.rows.result (length g.ys) c.cols.result (length g.xs) factor c.depths.ensures c.rows.ensures c.cols.ensures c.in_ok-narrowed.ensures in
    ok_map c.narrowed-2.result
    (λ v. AreNarrowed c.as_slice.result.now c.coarse_count.result c.rows-2.result factor v.items)
    (λ v. AreLeastDepths g factor v.items)
    (λ v q. twice g factor narrowed v.items along_rows
    (moved c.as_slice.result.now narrowed v.items c.coarse_count.result columns c.rows-2.result (length g.ys) factor c.as_slice.ensures.value (c.coarse_count.ensures ∙ ap (λ n. coarse_count n factor) c.cols-2.ensures) c.rows-2.ensures q))
    c.narrowed-2.ensures
