-- Charted depths are no deeper than the depths that they come from, and fit 32 bits.
use Rattle.std.proofs.Common.{◌≡◌, ℕ, ◌+◌, ◌*◌, ℤ, pos, neg_ℤ, ◌*ℤ◌, ◌<◌, ◌≤ℤ◌, Option, Some, None, List, length, get_or, sym, ◌∙◌, ap₂, subst, arith}
use Rattle.std.proofs.lemmas.Int.{ints}
use Rattle.std.specs.Int.{abs_diff}
use Rattle.mesh_definitions.specs.Field.{IsGeneralised, field_of}
use Rattle.chart_definitions.specs.Truth.{IsSource}
use Rattle.tiling_laws.proofs.Depths.{charted_from, found_below}
use Rattle.tiling_laws.specs.Depths.{IsNode}
use Rattle.depth_grid.specs.Disc.{near}
use Rattle.depth_grid.specs.Grid.{GridView}
use Rattle.depth_grid.specs.declared.node.NodeId.{NodeId}
use Rattle.shoal_buffer.specs.Charted.{ChartedView, AreShoaled, IsOpenedAt, IsShoaledAt, StandsIn}
use Rattle.shoal_buffer.specs.Opening.{IsOpened}

same_apart : (a b : ℕ) → abs_diff a b ≡ abs_diff b a
same_apart a b = omega arith

-- an opened depth is no deeper than the depth at its node: a node in the disc has the node in its own
opened_no_deeper : (g : GridView) (aspect radius : ℕ) (n : NodeId) (d m : ℤ) → IsSource g n d → IsOpened g aspect radius n.row n.col m → m ≤ℤ d
opened_no_deeper g aspect radius n d m source h =
    let at = h.greatest.stands in
    at.stands.least.least d (record {
      at_row = n.row;
      at_col = n.col;
      row_in = source.row_in;
      col_in = source.col_in;
      is_near = ap₂ (λ i j. near aspect radius i j) (same_apart n.row at.at_row) (same_apart n.col at.at_col) ∙ at.is_near;
      stands = source.depth;
    })

-- the charted depth of a node with data
pub charted_no_deeper : (g : GridView) (aspect radius : ℕ) (step_from steps levels : List ℤ) (v : ChartedView) (n : NodeId) (d : ℤ) → IsGeneralised g aspect radius step_from steps v → IsSource g n d → (x : ℤ) × IsNode (field_of v levels) n x × ((pos 100 *ℤ x) ≤ℤ d)
charted_no_deeper g aspect radius step_from steps levels v n d gen source =
    let opened = subst (λ o. IsOpenedAt g aspect radius n.row n.col o (get_or v.opened (n.row * length g.xs + n.col) None)) source.depth (gen.opened.each n.row n.col source.row_in source.col_in) in
    let low : opened.0 ≤ℤ d = opened_no_deeper g aspect radius n d opened.0 source opened.2 in
    let x = charted_from step_from steps v.opened v.charted (n.row * length g.xs + n.col) opened.0 gen.charted opened.1 in (
      x.0,
      record {
        row_in = subst (λ z. n.row < length z.ys) (sym gen.grid) source.row_in;
        col_in = subst (λ z. n.col < length z.xs) (sym gen.grid) source.col_in;
        depth = subst (λ z. get_or v.charted (n.row * length z.xs + n.col) None ≡ Some x.0) (sym gen.grid) x.1;
      },
      omega (arith, ints, low, x.2.shoalest.no_deeper),
    )

-- charted depths are within 12,000 metres
pub charted_within : (step_from steps : List ℤ) (opened charted : List (Option ℤ)) (x : ℤ) → AreShoaled step_from steps opened charted → StandsIn charted x → (neg_ℤ (pos 120000) ≤ℤ x) × (x ≤ℤ pos 120000)
charted_within step_from steps opened charted x h stands =
    let k = stands.0 in
    let below : k < length opened = let l = found_below charted k x stands.1 in omega (arith, h.full) in
    go (get_or opened k None) (h.each k below)
  where
    go : (o : Option ℤ) → IsShoaledAt step_from steps o (get_or charted stands.0 None) → (neg_ℤ (pos 120000) ≤ℤ x) × (x ≤ℤ pos 120000)
    go None e = let s = stands.1 in absurd (cc)
    go (Some m) e = let same : e.0 ≡ x = let s = stands.1 in let t = e.1 in cc in (subst (λ z. neg_ℤ (pos 120000) ≤ℤ z) same e.2.above, subst (λ z. z ≤ℤ pos 120000) same e.2.below)
