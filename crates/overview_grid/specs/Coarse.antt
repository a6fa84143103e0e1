-- The overview of a grid, computed: for every so many-th row and column the least depth of the neighbourhood of the node there.
use Rattle.std.specs.Prelude.{ℕ, ◌*◌, ◌/◌, ◌%◌, nat_le, ℤ, List, length, map, flat_map, filter, Option}
use Rattle.std.specs.Int.{abs_diff}
use Rattle.std.specs.List.{range_with_len}
use Rattle.depth_grid.specs.Grid.{GridView, place, depth_at}
use Rattle.overview_grid.specs.Least.{least_of}
use Rattle.overview_grid.specs.Overview.{coarse_count}

-- of so many rows or columns, those that are at most `factor` away from one of them
abbrev pub within : ℕ → ℕ → ℕ → List ℕ
within factor count k = filter (λ i. nat_le (abs_diff i k) factor) (range_with_len 0 count)

-- the depths of the neighbourhood of a node, row by row
abbrev pub depths_beside : GridView → ℕ → ℕ → ℕ → List (Option ℤ)
depths_beside g factor row col = flat_map (λ i. map (depth_at g i) (within factor (length g.xs) col)) (within factor (length g.ys) row)

-- the least of them, among which is the node's own; none where one of them is missing
abbrev pub least_depth : GridView → ℕ → ℕ → ℕ → Option ℤ
least_depth g factor row col = least_of (depth_at g row col) (depths_beside g factor row col)

-- every `factor`-th place, from the first on
abbrev pub coarse_places : ℕ → List ℤ → List ℤ
coarse_places factor zs = map (λ k. place zs (factor * k)) (range_with_len 0 (coarse_count (length zs) factor))

-- the least depths, row by row
abbrev pub coarse_depths : GridView → ℕ → List (Option ℤ)
coarse_depths g factor = map (λ k. least_depth g factor (factor * (k / cols)) (factor * (k % cols))) (range_with_len 0 (coarse_count (length g.ys) factor * cols))
  where
    cols : ℕ
    cols = coarse_count (length g.xs) factor

abbrev pub coarse_grid : GridView → ℕ → GridView
coarse_grid g factor = record { xs = coarse_places factor g.xs; ys = coarse_places factor g.ys; depths = coarse_depths g factor }
