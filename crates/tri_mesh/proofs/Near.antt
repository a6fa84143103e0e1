-- A line that has a point is near the cell that was found.
use Rattle.std.proofs.Common.{◌≡◌, ◌⊎◌, ⊎_elim, inl, inr, ℕ, ◌+◌, ◌-◌, ◌<◌, ◌≤◌, ◌≤ℤ◌, ◌<ℤ◌, neg_ℤ, Bool, refl, subst, arith}
use Rattle.std.proofs.lemmas.Int.{ints}
use Rattle.mesh_definitions.specs.Field.{Field, InCoverage}
use Rattle.mesh_definitions.specs.Ground.{chords}
use Rattle.mesh_definitions.specs.Mesh.{first, second}
use Rattle.mesh_definitions.specs.declared.Link.{Link}
use Rattle.mesh_definitions.specs.declared.Tri.{Tri}
use Rattle.mesh_definitions.specs.declared.Way.TheVariants.{Across, Down, Slant}
use Rattle.plane_geom.specs.Geom.{OnSome}
use Rattle.plane_geom.specs.declared.Point.{Point}
use Rattle.tri_mesh.specs.Lines.{DrawnAt, OnDrawn, IsBeside, CellDraws, NearDraws}
use Rattle.tri_mesh.specs.Lines.OnDrawn.{OnLink, OnChord}
use Rattle.tri_mesh.specs.Lines.CellDraws.{ByLink, ByChord}
use Rattle.tri_mesh.proofs.Between.{inside, beside, node, beside_down, in_order}
use Rattle.tri_mesh.proofs.Boxes.{on_chord_box}
use Rattle.tri_mesh.proofs.Drawing.{link, tri, first_link, second_link, third_link, fourth_link, fifth_link}
use Rattle.tri_mesh.proofs.Listing.{of_tris, of_links}
use Rattle.tri_mesh.proofs.Signs.{InCell}

-- the cell of a point in a field whose columns run east and rows south: of two that have it, the eastern or the southern one
pub record Found (f : Field) (p : Point) (row col : ℕ) : Type 0 where
  pub rises : (i k : ℕ) → i < k → k < f.cols → f.x i <ℤ f.x k
  pub falls : (i k : ℕ) → i < k → k < f.rows → f.y k <ℤ f.y i
  pub in_rows : row + 1 < f.rows
  pub in_cols : col + 1 < f.cols
  pub west : f.x col ≤ℤ p.x
  pub east : p.x ≤ℤ f.x (col + 1)
  pub eastern : (col + 2 ≡ f.cols) ⊎ (p.x <ℤ f.x (col + 1))
  pub north : p.y ≤ℤ f.y row
  pub south : f.y (row + 1) ≤ℤ p.y
  pub southern : (row + 2 ≡ f.rows) ⊎ (f.y (row + 1) <ℤ p.y)

module _ (f : Field) (block : ℕ → ℕ → ℕ) (p : Point) (row col : ℕ) (h : Found f p row col) where
  col_beside : (j : ℕ) → j + 1 < f.cols → f.x j ≤ℤ p.x → p.x ≤ℤ f.x (j + 1) → IsBeside f.x p.x col j
  col_beside = beside f.x f.cols col p.x h.rises h.in_cols h.west h.east h.eastern

  col_node : (j : ℕ) → j < f.cols → f.x j ≡ p.x → (j ≡ col) ⊎ (j ≡ col + 1)
  col_node = node f.x f.cols col p.x h.rises h.in_cols h.west h.east h.eastern

  last_row : (row + 2 ≡ f.rows) ⊎ (neg_ℤ p.y <ℤ neg_ℤ (f.y (row + 1)))
  last_row = ⊎_elim inl (λ l. inr (omega (arith, ints, l))) h.southern

  rises_down : (i k : ℕ) → i < k → k < f.rows → neg_ℤ (f.y i) <ℤ neg_ℤ (f.y k)
  rises_down i k a b = omega (arith, ints, h.falls i k a b)

  row_beside : (i : ℕ) → i + 1 < f.rows → p.y ≤ℤ f.y i → f.y (i + 1) ≤ℤ p.y → IsBeside f.y p.y row i
  row_beside i lt a b = beside_down f.y p.y row i (beside (λ i. neg_ℤ (f.y i)) f.rows row (neg_ℤ p.y) rises_down h.in_rows (omega (arith, ints, h.north)) (omega (arith, ints, h.south)) last_row i lt (omega (arith, ints, a)) (omega (arith, ints, b)))

  row_node : (i : ℕ) → i < f.rows → f.y i ≡ p.y → (i ≡ row) ⊎ (i ≡ row + 1)
  row_node i lt e = node (λ i. neg_ℤ (f.y i)) f.rows row (neg_ℤ p.y) rises_down h.in_rows (omega (arith, ints, h.north)) (omega (arith, ints, h.south)) last_row i lt (omega (arith, ints, e))

  near : (i j : ℕ) → IsBeside f.y p.y row i → IsBeside f.x p.x col j → CellDraws f block p i j → NearDraws f block p row col
  near i j a b d = record { row = i; beside = a; draws = record { col = j; beside = b; draws = d } }

  abbrev Near : Link → Type 0
  Near l = DrawnAt f block p l → NearDraws f block p row col

  on_across : (i j : ℕ) → i < f.rows → j + 1 < f.cols → Near (link Across i j)
  on_across i j a b d =
      let w = h.rises j (j + 1) (omega arith) b in
      let x = inside (f.x j) (f.x (j + 1)) (f.x j) (f.x (j + 1)) p.x d.on.wide (omega (arith, ints)) (omega (arith, ints, w)) (omega (arith, ints, w)) (omega (arith, ints)) in
      let y = inside (f.y i) (f.y i) (f.y i) (f.y i) p.y d.on.high (omega (arith, ints)) (omega (arith, ints)) (omega (arith, ints)) (omega (arith, ints)) in
      let at : f.y i ≡ p.y = omega (arith, ints, y.0, y.1) in
      ⊎_elim
      (λ e. near row j (inl refl) (col_beside j b x.0 x.1) (ByLink (first_link f block p (link Across row j) row j refl (subst (λ i. DrawnAt f block p (link Across i j)) e d))))
      (λ e. near row j (inl refl) (col_beside j b x.0 x.1) (ByLink (fourth_link f block p (link Across (row + 1) j) row j refl (subst (λ i. DrawnAt f block p (link Across i j)) e d))))
      (row_node i a at)

  on_down : (i j : ℕ) → i + 1 < f.rows → j < f.cols → Near (link Down i j)
  on_down i j a b d =
      let w = h.falls i (i + 1) (omega arith) a in
      let x = inside (f.x j) (f.x j) (f.x j) (f.x j) p.x d.on.wide (omega (arith, ints)) (omega (arith, ints)) (omega (arith, ints)) (omega (arith, ints)) in
      let y = inside (f.y (i + 1)) (f.y i) (f.y i) (f.y (i + 1)) p.y d.on.high (omega (arith, ints, w)) (omega (arith, ints)) (omega (arith, ints)) (omega (arith, ints, w)) in
      let at : f.x j ≡ p.x = omega (arith, ints, x.0, x.1) in
      ⊎_elim
      (λ e. near i col (row_beside i a y.1 y.0) (inl refl) (ByLink (second_link f block p (link Down i col) i col refl (subst (λ j. DrawnAt f block p (link Down i j)) e d))))
      (λ e. near i col (row_beside i a y.1 y.0) (inl refl) (ByLink (fifth_link f block p (link Down i (col + 1)) i col refl (subst (λ j. DrawnAt f block p (link Down i j)) e d))))
      (col_node j b at)

  on_slant : (i j : ℕ) → i + 1 < f.rows → j + 1 < f.cols → Near (link Slant i j)
  on_slant i j a b d =
      let w = h.rises j (j + 1) (omega arith) b in
      let v = h.falls i (i + 1) (omega arith) a in
      let x = inside (f.x j) (f.x (j + 1)) (f.x j) (f.x (j + 1)) p.x d.on.wide (omega (arith, ints)) (omega (arith, ints, w)) (omega (arith, ints, w)) (omega (arith, ints)) in
      let y = inside (f.y (i + 1)) (f.y i) (f.y (i + 1)) (f.y i) p.y d.on.high (omega (arith, ints)) (omega (arith, ints, v)) (omega (arith, ints, v)) (omega (arith, ints)) in
      near i j (row_beside i a y.1 y.0) (col_beside j b x.0 x.1) (ByLink (third_link f block p (link Slant i j) i j refl d))

  abbrev NearChord : Tri → Type 0
  NearChord t = OnSome (chords f t) p → NearDraws f block p row col

  on_tri : (i j : ℕ) (upper : Bool) → i + 1 < f.rows → j + 1 < f.cols → NearChord (tri i j upper)
  on_tri i j upper a b on =
      let box : InCell f i j p = on_chord_box f i j (h.rises j (j + 1) (omega arith) b) (h.falls i (i + 1) (omega arith) a) upper p on in
      near i j (row_beside i a box.north box.south) (col_beside j b box.west box.east) (ByChord upper on)

  pub drawn_near : OnDrawn f block p → NearDraws f block p row col
  drawn_near (OnLink l there at) = of_links f (omega (arith, h.in_rows)) (omega (arith, h.in_cols)) Near on_across on_down on_slant l there at
  drawn_near (OnChord t there on) = of_tris f (omega (arith, h.in_rows)) (omega (arith, h.in_cols)) NearChord on_tri t there on

-- the lines of the mesh lie in the coverage
module _ (f : Field) (block : ℕ → ℕ → ℕ) (p : Point) (rows : 1 ≤ f.rows) (cols : 1 ≤ f.cols) (rises : (i k : ℕ) → i < k → k < f.cols → f.x i <ℤ f.x k) (falls : (i k : ℕ) → i < k → k < f.rows → f.y k <ℤ f.y i) where
  rises_south : (i k : ℕ) → i < k → k < f.rows → neg_ℤ (f.y i) <ℤ neg_ℤ (f.y k)
  rises_south i k a b = omega (arith, ints, falls i k a b)

  from_west : (j : ℕ) → j < f.cols → f.x 0 ≤ℤ f.x j
  from_west j h = in_order f.x f.cols rises 0 j (omega arith) h

  to_east : (j : ℕ) → j < f.cols → f.x j ≤ℤ f.x (f.cols - 1)
  to_east j h = in_order f.x f.cols rises j (f.cols - 1) (omega (arith, h)) (omega (arith, cols))

  from_south : (i : ℕ) → i < f.rows → f.y (f.rows - 1) ≤ℤ f.y i
  from_south i h = omega (arith, ints, in_order (λ i. neg_ℤ (f.y i)) f.rows rises_south i (f.rows - 1) (omega (arith, h)) (omega (arith, rows)))

  to_north : (i : ℕ) → i < f.rows → f.y i ≤ℤ f.y 0
  to_north i h = omega (arith, ints, in_order (λ i. neg_ℤ (f.y i)) f.rows rises_south 0 i (omega arith) h)

  abbrev Covered : Link → Type 0
  Covered l = DrawnAt f block p l → InCoverage f p

  covered : (l : Link) → (first l).row < f.rows → (first l).col < f.cols → (second l).row < f.rows → (second l).col < f.cols → Covered l
  covered l a b c e d =
      let x = inside (f.x 0) (f.x (f.cols - 1)) (f.x (first l).col) (f.x (second l).col) p.x d.on.wide (from_west (first l).col b) (to_east (first l).col b) (from_west (second l).col e) (to_east (second l).col e) in
      let y = inside (f.y (f.rows - 1)) (f.y 0) (f.y (first l).row) (f.y (second l).row) p.y d.on.high (from_south (first l).row a) (to_north (first l).row a) (from_south (second l).row c) (to_north (second l).row c) in
      record { west = x.0; east = x.1; south = y.0; north = y.1 }

  tri_covered : (i j : ℕ) (upper : Bool) → i + 1 < f.rows → j + 1 < f.cols → OnSome (chords f (tri i j upper)) p → InCoverage f p
  tri_covered i j upper a b on =
      let box : InCell f i j p = on_chord_box f i j (rises j (j + 1) (omega arith) b) (falls i (i + 1) (omega arith) a) upper p on in
      record {
        west = omega (arith, ints, from_west j (omega (arith, b)), box.west);
        east = omega (arith, ints, to_east (j + 1) b, box.east);
        south = omega (arith, ints, from_south (i + 1) a, box.south);
        north = omega (arith, ints, to_north i (omega (arith, a)), box.north);
      }

  pub drawn_covered : OnDrawn f block p → InCoverage f p
  drawn_covered (OnLink l there at) = of_links f rows cols Covered
      (λ i j a b. covered (link Across i j) a (omega (arith, b)) a b)
      (λ i j a b. covered (link Down i j) (omega (arith, a)) b a b)
      (λ i j a b. covered (link Slant i j) a (omega (arith, b)) (omega (arith, a)) b)
      l there at
  drawn_covered (OnChord t there on) = of_tris f rows cols (λ t. OnSome (chords f t) p → InCoverage f p) tri_covered t there on
