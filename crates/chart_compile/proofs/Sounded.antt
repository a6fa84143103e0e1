-- The soundings that are selected.
use Rattle.std.proofs.Common.{ℕ, ℤ, ◌+◌, ◌*◌, ◌/◌, ◌^◌, ◌≤◌, List, length, All, arith, mul-le-mul}
use Rattle.std.proofs.lemmas.List.Elements.{All-contains_itself}
use Rattle.std.proofs.lemmas.List.FromFn.{length-map-range_with_len}
use Rattle.built_parts.specs.Nodes.{IsNodeIn, isolated_record, isolated_records, nodes_in}
use Rattle.depth_grid.specs.declared.disc.Radii.{Radii}
use Rattle.depth_grid.specs.declared.node.NodeId.{NodeId}
use Rattle.shoal_buffer.specs.Charted.{ChartedView}
use Rattle.sounding_select.specs.Selection.{IsSelection}

-- each stands at a node of the grid
pub selected_inside : (v : ChartedView) (levels : List ℤ) (radii : Radii) (chosen : List NodeId) → IsSelection v levels radii chosen → All (IsNodeIn v) chosen
selected_inside v levels radii chosen h i d l =
    let q = (h.exactly _).0 (All-contains_itself chosen i d l) in
    record { row = q.0.row_in; col = q.0.col_in }

-- there are no more than nodes of the largest grid
pub few_nodes : (n rows cols : ℕ) → n ≤ rows * cols → rows ≤ 1025 → cols ≤ 1025 → n ≤ 1050625
few_nodes n rows cols l r c = let most : rows * cols ≤ 1025 * 1025 = mul-le-mul r c in omega (arith, l, most)

-- and few records have them
pub few_records : (v : ChartedView) (chosen : List NodeId) → length chosen ≤ 1050625 → length (isolated_records v chosen) ≤ 2 ^ 20
few_records v chosen l =
    let n = length-map-range_with_len (λ place. isolated_record v (place + 1) (nodes_in chosen place)) 0 ((length chosen + 1999) / 2000) in
    omega (arith, l, n)
