-- The depths of the sample, node by node.
use Rattle.std.proofs.Common.{◌≡◌, ℕ, ◌+◌, ◌*◌, ◌^◌, ◌/◌, ◌%◌, ◌<◌, ◌≤◌, ℤ, pos, neg_ℤ, ◌≤ℤ◌, List, length, Option, None, map, ap, ap₂, inl, inr, sym, ◌∙◌, arith}
use Rattle.std.specs.Prelude.{slice_index_or, reverse}
use Rattle.std.specs.List.{range_with_len}
use Rattle.std.proofs.lemmas.Int.{ints}
use Rattle.std.proofs.lemmas.Bool.{cases_lt}
use Rattle.std.proofs.lemmas.Nat.{div_below, mod_below, rows as placing, div-mul-add, mod-mul-add}
use Rattle.std.proofs.lemmas.List.{get_or_past, length-reverse}
use Rattle.std.proofs.lemmas.List.FromFn.{get_or-map-range_with_len, length-map-range_with_len}
use Rattle.depth_grid.specs.Grid.{GridView, AreDepths, depth_at}
use Rattle.grid_reader.specs.Shape.{positions}
use Rattle.grid_reader.proofs.Placed.{positions_count}
use Rattle.chart_sample.specs.Depths.{sample_depth, node_depth}
use Rattle.chart_sample.specs.Sample.{sized_view}
use Rattle.chart_sample.proofs.Bounds.{depth_between}
use Rattle.chart_sample.proofs.Lined.{cell}

module _ (n rows cols : ℕ) where
  -- the depths, row by row
  abbrev pub depths : List (Option ℤ)
  depths = map (node_depth n cols) (range_with_len 0 (rows * cols))

  pub depths_count : length depths ≡ rows * cols
  depths_count = length-map-range_with_len (node_depth n cols) 0 (rows * cols)

  at_node : (k : ℕ) → k < rows * cols → slice_index_or depths k None ≡ node_depth n cols k
  at_node k h = get_or-map-range_with_len (node_depth n cols) 0 (rows * cols) k k None h (omega arith)

  goes_in : (row col : ℕ) → row < rows → col < cols → row * cols + col < rows * cols
  goes_in row col r c = grind (arith, placing)

  -- the depth of a node by its row and column
  pub at_place : (row col : ℕ) → row < rows → col < cols → slice_index_or depths (row * cols + col) None ≡ sample_depth n row col
  at_place row col r c = at_node (row * cols + col) (goes_in row col r c) ∙ ap₂ (sample_depth n) (div-mul-add row cols col c) (mod-mul-add row cols col c)

  -- no depth is as deep as the limit of a grid
  pub are_depths : 2 ≤ cols → rows ≤ 1025 → cols ≤ 1025 → AreDepths depths
  are_depths some few_rows few_cols k d h = elim (cases_lt k (rows * cols)) [ inl l ↦ within l | inr l ↦ absurd (past l) ]
    where
      within : k < rows * cols → (neg_ℤ (pos 12000000) ≤ℤ d) × (d ≤ℤ pos 12000000)
      within l =
          let b = depth_between n (k / cols) (k % cols) d (sym (at_node k l) ∙ h) in
          let row : k / cols < rows = div_below k cols rows (omega arith) l in
          let col : k % cols < cols = mod_below k cols (omega arith) in
          (omega (arith, ints, b.0), omega (arith, ints, b.1))

      past : rows * cols ≤ k → ⊥
      past l = let e : slice_index_or depths k None ≡ None = get_or_past depths k None (omega (arith, depths_count)) in cc

  rows_count : length (sized_view n rows cols).ys ≡ rows
  unfolding sized_view
  rows_count = length-reverse _ ∙ positions_count (pos (104 * 10 ^ 24)) cell rows

  cols_count : length (sized_view n rows cols).xs ≡ cols
  unfolding sized_view
  cols_count = positions_count (pos (8 * 10 ^ 24)) cell cols

  -- the depths of the sample's nodes
  pub depth_of_node : (row col : ℕ) → row < rows → col < cols → depth_at (sized_view n rows cols) row col ≡ sample_depth n row col
  unfolding sized_view
  depth_of_node row col r c = ap (λ w. slice_index_or depths (row * w + col) None) cols_count ∙ at_place row col r c

  -- a grid with these columns, rows and depths is the sample
  pub is_sized : (v : GridView) → v.xs ≡ positions (pos (8 * 10 ^ 24)) cell cols → v.ys ≡ reverse (positions (pos (104 * 10 ^ 24)) cell rows) → v.depths ≡ depths → v ≡ sized_view n rows cols
  unfolding sized_view
  is_sized v xs ys ds =
      let w = sized_view n rows cols in
      let first : v ≡ record { xs = w.xs; ys = v.ys; depths = v.depths } = ap (λ z. let g : GridView = record { xs = z; ys = v.ys; depths = v.depths } in g) xs in
      let second : v ≡ record { xs = w.xs; ys = w.ys; depths = v.depths } = first ∙ ap (λ z. let g : GridView = record { xs = w.xs; ys = z; depths = v.depths } in g) ys in
      second ∙ ap (λ z. let g : GridView = record { xs = w.xs; ys = w.ys; depths = z } in g) ds
