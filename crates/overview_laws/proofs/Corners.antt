-- A node of the fine grid in a cell of the overview lies in the neighbourhoods of the cell's corners; and of the bands of a triangle none is deeper than that of each of its corners.
use Rattle.std.proofs.Common.{◌≡◌, ◌⊎◌, ⊎_elim, inl, inr, ℕ, ◌+◌, ◌*◌, ◌<◌, ◌≤◌, max, ℤ, ◌≤ℤ◌, Bool, true, false, List, [], ◌∷◌, fold, length, refl, sym, subst, arith, add-one}
use Rattle.std.proofs.Math.Nat.{mul-suc}
use Rattle.std.proofs.lemmas.Bool.{cases_lt}
use Rattle.std.proofs.lemmas.Int.{ints}
use Rattle.std.specs.Int.{abs_diff}
use Rattle.depth_grid.specs.Grid.{Falls, GridView, IsGrid, Rises, depth_at, place}
use Rattle.depth_grid.specs.declared.node.NodeId.{NodeId}
use Rattle.mesh_definitions.specs.Field.{Field, band_at, field_of}
use Rattle.mesh_definitions.specs.Mesh.{corners}
use Rattle.mesh_definitions.specs.Pieces.{greatest_band}
use Rattle.mesh_definitions.specs.declared.Tri.{Tri}
use Rattle.mesh_laws.proofs.Triangles.{tri}
use Rattle.overview_grid.proofs.PlaceLemmas.{coarse_inside}
use Rattle.overview_grid.specs.Laws.{IsFactor}
use Rattle.overview_grid.specs.Least.{IsAsShoal}
use Rattle.overview_grid.specs.Overview.{IsOverview}
use Rattle.overview_laws.proofs.Cells.{AtCell, one_or_other}
use Rattle.overview_laws.specs.StaysShoal.{node_point}
use Rattle.plane_laws.proofs.Members.{In}
use Rattle.shoal_buffer.specs.Charted.{ChartedView}
use Rattle.tri_mesh.proofs.Signs.{InCell}

abbrev node : ℕ → ℕ → NodeId
node i j = record { row = i; col = j }

-- ---- the deepest corner

of_max : (b a c : ℕ) → b ≤ max a c → (b ≤ a) ⊎ (b ≤ c)
of_max b a c l = grind arith

reached : (g : NodeId → ℕ) (ns : List NodeId) (a b : ℕ) → b ≤ fold (λ x n. max x (g n)) a ns → (b ≤ a) ⊎ ((n : NodeId) × In ns n × (b ≤ g n))
reached g [] a b l = inl l
reached g (n ∷ ns) a b l = ⊎_elim
    (λ k. ⊎_elim (λ m. inl m) (λ m. inr (n, inl refl, m)) (of_max b a (g n) k))
    (λ r. inr (r.0, inr r.1, r.2))
    (reached g ns (max a (g n)) b l)

some_corner : (i j : ℕ) (u : Bool) → (n : NodeId) × In (corners (tri i j u)) n
some_corner i j true = (node i j, inl refl)
some_corner i j false = (node (i + 1) j, inl refl)

-- a number up to the greatest band of a triangle is one up to the band of a corner
pub deep_corner : (f : Field) (t : Tri) (b : ℕ) → b ≤ greatest_band f t → (n : NodeId) × In (corners t) n × (b ≤ band_at f n)
deep_corner f t b l = ⊎_elim
    (λ none. let n = some_corner t.row t.col t.upper in (n.0, n.1, omega (arith, none)))
    (λ r. r)
    (reached (band_at f) (corners t) 0 b l)

-- ---- places in order

rises_back : (zs : List ℤ) (i k : ℕ) → Rises zs → i < length zs → place zs i ≤ℤ place zs k → i ≤ k
rises_back zs i k rise l h = ⊎_elim (λ less. absurd (let r = rise k i less l in omega (arith, ints, r, h))) (λ more. more) (cases_lt k i)

falls_back : (zs : List ℤ) (i k : ℕ) → Falls zs → i < length zs → place zs k ≤ℤ place zs i → i ≤ k
falls_back zs i k fall l h = ⊎_elim (λ less. absurd (let r = fall k i less l in omega (arith, ints, r, h))) (λ more. more) (cases_lt k i)

next_multiple : (factor i : ℕ) → factor * (i + 1) ≡ factor * i + factor
next_multiple factor i = rw (add-one i) (mul-suc factor i)

-- what lies between neighbouring multiples of a factor is at most so far from each
not_far : (factor i r k : ℕ) → factor * i ≤ r → r ≤ factor * (i + 1) → i ≤ k → k ≤ i + 1 → abs_diff r (factor * k) ≤ factor
not_far factor i r k l m a b = ⊎_elim
    (λ e. subst (λ z. abs_diff r (factor * z) ≤ factor) (sym e) (let n = next_multiple factor i in omega (arith, n, l, m)))
    (λ e. subst (λ z. abs_diff r (factor * z) ≤ factor) (sym e) (let n = next_multiple factor i in omega (arith, n, l, m)))
    (one_or_other i k a b)

-- ---- the neighbourhoods of the corners

module _ (fine : GridView) (factor : ℕ) (grid : IsGrid fine) (fits : IsFactor fine factor) (v : ChartedView) (levels : List ℤ) (o : IsOverview fine factor v.grid) (n : NodeId) (row_in : n.row < length fine.ys) (col_in : n.col < length fine.xs) where
  row_place : (i : ℕ) → i < length v.grid.ys → (factor * i < length fine.ys) × (place v.grid.ys i ≡ place fine.ys (factor * i))
  row_place i l = let r = fits.rows in (coarse_inside (length fine.ys) factor i (omega (arith, r)) (subst (λ z. i < z) o.rows.full l), o.rows.each i l)

  col_place : (j : ℕ) → j < length v.grid.xs → (factor * j < length fine.xs) × (place v.grid.xs j ≡ place fine.xs (factor * j))
  col_place j l = let r = fits.columns in (coarse_inside (length fine.xs) factor j (omega (arith, r)) (subst (λ z. j < z) o.columns.full l), o.columns.each j l)

  -- a corner of the cell in which the node lies is charted as shoal as the node, or shoaler
  pub corner_as_shoal : (i j : ℕ) → i + 1 < length v.grid.ys → j + 1 < length v.grid.xs → InCell (field_of v levels) i j (node_point fine n) → (u : NodeId) → AtCell i j u → IsAsShoal (depth_at v.grid u.row u.col) (depth_at fine n.row n.col)
  corner_as_shoal i j in_rows in_cols cell u at =
      let y0 = row_place i (omega (arith, in_rows)) in
      let y1 = row_place (i + 1) in_rows in
      let x0 = col_place j (omega (arith, in_cols)) in
      let x1 = col_place (j + 1) in_cols in
      let north : factor * i ≤ n.row = falls_back fine.ys (factor * i) n.row grid.southwards y0.0 (subst (λ z. place fine.ys n.row ≤ℤ z) y0.1 cell.north) in
      let south : n.row ≤ factor * (i + 1) = falls_back fine.ys n.row (factor * (i + 1)) grid.southwards row_in (subst (λ z. z ≤ℤ place fine.ys n.row) y1.1 cell.south) in
      let west : factor * j ≤ n.col = rises_back fine.xs (factor * j) n.col grid.eastwards x0.0 (subst (λ z. z ≤ℤ place fine.xs n.col) x0.1 cell.west) in
      let east : n.col ≤ factor * (j + 1) = rises_back fine.xs n.col (factor * (j + 1)) grid.eastwards col_in (subst (λ z. place fine.xs n.col ≤ℤ z) x1.1 cell.east) in
      let s = at.south in
      let e = at.east in
      (o.depths u.row u.col (omega (arith, s, in_rows)) (omega (arith, e, in_cols))).least (depth_at fine n.row n.col) (record {
        at_row = n.row;
        at_col = n.col;
        row_in = row_in;
        col_in = col_in;
        rows_away = not_far factor i n.row u.row north south at.north at.south;
        cols_away = not_far factor j n.col u.col west east at.west at.east;
        stands = refl;
      })
