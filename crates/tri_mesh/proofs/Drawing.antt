-- Lines near a point, and what the mesh has.
use Rattle.std.proofs.Common.{◌≡◌, ⊎_elim, inr, ℕ, zero, suc, ◌+◌, ◌-◌, ◌<◌, ◌≤◌, Bool, true, false, List, [], ◌∷◌, ◌++◌, length, get_or, true≢false, refl, sym, subst, ◌∙◌, arith}
use Rattle.std.specs.List.{Contains, range_with_len, flat_map}
use Rattle.std.proofs.lemmas.List.Concat.{flat_map-cons}
use Rattle.std.proofs.lemmas.List.Elements.{Contains-append_left, Contains-append_right}
use Rattle.std.proofs.lemmas.List.FromFn.{get_or-range_with_len, length-range_with_len}
use Rattle.mesh_definitions.specs.Field.{Field}
use Rattle.mesh_definitions.specs.Ground.{chords}
use Rattle.mesh_definitions.specs.Mesh.{all_cells, each_place, links, tris}
use Rattle.mesh_definitions.specs.declared.Link.{Link}
use Rattle.mesh_definitions.specs.declared.Tri.{Tri}
use Rattle.mesh_definitions.specs.declared.Way.TheVariants.{Across, Down, Slant}
use Rattle.mesh_definitions.specs.declared.Way.{Way}
use Rattle.plane_geom.specs.Geom.{OnSome}
use Rattle.plane_geom.specs.declared.Point.{Point}
use Rattle.tri_mesh.specs.Lines.{DrawnAt, OnDrawn, links_of, LinksDraw, CellDraws, RowDraws, NearDraws}
use Rattle.tri_mesh.specs.Lines.OnDrawn.{OnLink, OnChord}
use Rattle.tri_mesh.specs.Lines.CellDraws.{ByLink, ByChord}

pub not_by : {P : Type 0} (r : Bool) → r ≡ false → (P → r ≡ true) → ¬ P
not_by r e g x = true≢false (sym (g x) ∙ e)

abbrev pub link : Way → ℕ → ℕ → Link
link way i j = record { way = way; row = i; col = j }

abbrev pub tri : ℕ → ℕ → Bool → Tri
tri i j upper = record { row = i; col = j; upper = upper }

module _ (f : Field) (block : ℕ → ℕ → ℕ) (p : Point) where
  abbrev D : Link → Type 0
  D l = DrawnAt f block p l

  pub not_link : (l m : Link) (r : Bool) → l ≡ m → r ≡ false → (D l → r ≡ true) → ¬ (D m)
  not_link l m r e off g d = not_by r off g (subst D (sym e) d)

  pub first_link : (l : Link) (i j : ℕ) → l ≡ link Across i j → D l → LinksDraw f block p i j
  first_link l i j e d = record { link = link Across i j; there = (0, omega arith, refl); at = subst D e d }

  pub second_link : (l : Link) (i j : ℕ) → l ≡ link Down i j → D l → LinksDraw f block p i j
  second_link l i j e d = record { link = link Down i j; there = (1, omega arith, refl); at = subst D e d }

  pub third_link : (l : Link) (i j : ℕ) → l ≡ link Slant i j → D l → LinksDraw f block p i j
  third_link l i j e d = record { link = link Slant i j; there = (2, omega arith, refl); at = subst D e d }

  pub fourth_link : (l : Link) (i j : ℕ) → l ≡ link Across (i + 1) j → D l → LinksDraw f block p i j
  fourth_link l i j e d = record { link = link Across (i + 1) j; there = (3, omega arith, refl); at = subst D e d }

  pub fifth_link : (l : Link) (i j : ℕ) → l ≡ link Down i (j + 1) → D l → LinksDraw f block p i j
  fifth_link l i j e d = record { link = link Down i (j + 1); there = (4, omega arith, refl); at = subst D e d }

  -- where the first four links don't draw it is the fifth
  pub last_link : (i j : ℕ) → LinksDraw f block p i j → ¬ (D (link Across i j)) → ¬ (D (link Down i j)) → ¬ (D (link Slant i j)) → ¬ (D (link Across (i + 1) j)) → D (link Down i (j + 1))
  last_link i j draws a b c d = by draws.there.0 draws.link draws.there.1 draws.there.2 draws.at
    where
      by : (k : ℕ) (l : Link) → k < 5 → get_or (links_of i j) k l ≡ l → D l → D (link Down i (j + 1))
      by zero l lt e at = absurd (a (subst D (sym e) at))
      by (suc zero) l lt e at = absurd (b (subst D (sym e) at))
      by (suc (suc zero)) l lt e at = absurd (c (subst D (sym e) at))
      by (suc (suc (suc zero))) l lt e at = absurd (d (subst D (sym e) at))
      by (suc (suc (suc (suc zero)))) l lt e at = subst D (sym e) at
      by (suc (suc (suc (suc (suc k))))) l lt e at = absurd (omega (arith, lt))

  pub last_chord : (i j : ℕ) → CellDraws f block p i j → ¬ (LinksDraw f block p i j) → ¬ (OnSome (chords f (tri i j true)) p) → OnSome (chords f (tri i j false)) p
  last_chord i j (ByLink d) a b = absurd (a d)
  last_chord i j (ByChord true on) a b = absurd (b on)
  last_chord i j (ByChord false on) a b = on

  -- a row draws in the column that was found, or in the one before it
  pub row_west : (i j : ℕ) → (1 ≤ j) × (f.x j ≡ p.x) → CellDraws f block p i (j - 1) → RowDraws f block p i j
  row_west i j h d = record { col = j - 1; beside = inr (omega (arith, h.0), h.1); draws = d }

  pub row_none : (i j : ℕ) → RowDraws f block p i j → ¬ (CellDraws f block p i j) → ¬ ((1 ≤ j) × (f.x j ≡ p.x)) → ⊥
  row_none i j d a b = ⊎_elim (λ e. a (subst (CellDraws f block p i) e d.draws)) (λ h. b (omega (arith, h.0), h.1)) d.beside

  pub row_last : (i j : ℕ) → RowDraws f block p i j → ¬ (CellDraws f block p i j) → CellDraws f block p i (j - 1)
  row_last i j d a = ⊎_elim (λ e. absurd (a (subst (CellDraws f block p i) e d.draws))) (λ h. let e : d.col ≡ j - 1 = omega (arith, h.0) in subst (CellDraws f block p i) e d.draws) d.beside

  abbrev R : ℕ → ℕ → Type 0
  R j i = RowDraws f block p i j

  pub near_north : (i j : ℕ) → (1 ≤ i) × (f.y i ≡ p.y) → RowDraws f block p (i - 1) j → NearDraws f block p i j
  near_north i j h d = record { row = i - 1; beside = inr (omega (arith, h.0), h.1); draws = d }

  pub near_none : (i j : ℕ) → NearDraws f block p i j → ¬ (RowDraws f block p i j) → ¬ ((1 ≤ i) × (f.y i ≡ p.y)) → ⊥
  near_none i j d a b = ⊎_elim (λ e. a (subst (R j) e d.draws)) (λ h. b (omega (arith, h.0), h.1)) d.beside

  pub near_last : (i j : ℕ) → NearDraws f block p i j → ¬ (RowDraws f block p i j) → RowDraws f block p (i - 1) j
  near_last i j d a = ⊎_elim (λ e. absurd (a (subst (R j) e d.draws))) (λ h. let e : d.row ≡ i - 1 = omega (arith, h.0) in subst (R j) e d.draws) d.beside

-- what a flat map of lists has
in_flat : {X Y : Type 0} (g : X → List Y) (xs : List X) (x : X) (y : Y) (k : ℕ) → k < length xs → get_or xs k x ≡ x → Contains (g x) y → Contains (flat_map g xs) y
in_flat g [] x y k lt e h = absurd (omega (arith, lt))
in_flat g (z ∷ zs) x y zero lt e h = subst (λ l. Contains l y) (sym (flat_map-cons g z zs)) (Contains-append_left (g z) (flat_map g zs) y (subst (λ w. Contains (g w) y) (sym e) h))
in_flat g (z ∷ zs) x y (suc k) lt e h = subst (λ l. Contains l y) (sym (flat_map-cons g z zs)) (Contains-append_right (g z) (flat_map g zs) y (in_flat g zs x y k (omega (arith, lt)) e h))

in_range : {Y : Type 0} (g : ℕ → List Y) (n i : ℕ) (y : Y) → i < n → Contains (g i) y → Contains (flat_map g (range_with_len 0 n)) y
in_range g n i y lt h = let l = length-range_with_len 0 n in in_flat g (range_with_len 0 n) i y i (omega (arith, l, lt)) (let e = get_or-range_with_len 0 n i i lt in omega (arith, e)) h

in_place : {Y : Type 0} (rows cols : ℕ) (make : ℕ → ℕ → List Y) (i j : ℕ) (y : Y) → i < rows → j < cols → Contains (make i j) y → Contains (each_place 0 rows 0 cols make) y
in_place rows cols make i j y in_rows in_cols h = in_range (λ i. flat_map (make i) (range_with_len 0 cols)) rows i y in_rows (in_range (make i) cols j y in_cols h)

module _ (f : Field) where
  abbrev pub only : Way → ℕ → ℕ → List Link
  only way i j = link way i j ∷ []

  abbrev pub two : ℕ → ℕ → List Tri
  two i j = tri i j true ∷ tri i j false ∷ []

  -- the triangles of a cell and its links are of the mesh
  pub in_tris : (i j : ℕ) (upper : Bool) → i + 1 < f.rows → j + 1 < f.cols → Contains (tris (all_cells f)) (tri i j upper)
  in_tris i j true a b = in_place (f.rows - 1) (f.cols - 1) two i j (tri i j true) (omega (arith, a)) (omega (arith, b)) (0, omega arith, refl)
  in_tris i j false a b = in_place (f.rows - 1) (f.cols - 1) two i j (tri i j false) (omega (arith, a)) (omega (arith, b)) (1, omega arith, refl)

  pub tri_there : (t : Tri) (i j : ℕ) → t.row ≡ i → t.col ≡ j → i + 1 < f.rows → j + 1 < f.cols → Contains (tris (all_cells f)) t
  tri_there t i j e h a b = in_tris t.row t.col t.upper (omega (arith, e, a)) (omega (arith, h, b))

  abbrev pub acrosses : List Link
  acrosses = each_place 0 (f.rows - 1 + 1) 0 (f.cols - 1) (only Across)

  abbrev pub downs : List Link
  downs = each_place 0 (f.rows - 1) 0 (f.cols - 1 + 1) (only Down)

  abbrev pub slants : List Link
  slants = each_place 0 (f.rows - 1) 0 (f.cols - 1) (only Slant)

  in_acrosses : (i j : ℕ) → i < f.rows → j + 1 < f.cols → Contains (links (all_cells f)) (link Across i j)
  in_acrosses i j a b = Contains-append_left (acrosses ++ downs) slants (link Across i j) (Contains-append_left acrosses downs (link Across i j) (in_place (f.rows - 1 + 1) (f.cols - 1) (only Across) i j (link Across i j) (omega (arith, a)) (omega (arith, b)) (0, omega arith, refl)))

  in_downs : (i j : ℕ) → i + 1 < f.rows → j < f.cols → Contains (links (all_cells f)) (link Down i j)
  in_downs i j a b = Contains-append_left (acrosses ++ downs) slants (link Down i j) (Contains-append_right acrosses downs (link Down i j) (in_place (f.rows - 1) (f.cols - 1 + 1) (only Down) i j (link Down i j) (omega (arith, a)) (omega (arith, b)) (0, omega arith, refl)))

  in_slants : (i j : ℕ) → i + 1 < f.rows → j + 1 < f.cols → Contains (links (all_cells f)) (link Slant i j)
  in_slants i j a b = Contains-append_right (acrosses ++ downs) slants (link Slant i j) (in_place (f.rows - 1) (f.cols - 1) (only Slant) i j (link Slant i j) (omega (arith, a)) (omega (arith, b)) (0, omega arith, refl))

  in_links : (i j : ℕ) → i + 1 < f.rows → j + 1 < f.cols → (k : ℕ) (l : Link) → k < 5 → get_or (links_of i j) k l ≡ l → Contains (links (all_cells f)) l
  in_links i j a b zero l lt e = subst (Contains (links (all_cells f))) e (in_acrosses i j (omega (arith, a)) b)
  in_links i j a b (suc zero) l lt e = subst (Contains (links (all_cells f))) e (in_downs i j a (omega (arith, b)))
  in_links i j a b (suc (suc zero)) l lt e = subst (Contains (links (all_cells f))) e (in_slants i j a b)
  in_links i j a b (suc (suc (suc zero))) l lt e = subst (Contains (links (all_cells f))) e (in_acrosses (i + 1) j a b)
  in_links i j a b (suc (suc (suc (suc zero)))) l lt e = subst (Contains (links (all_cells f))) e (in_downs i (j + 1) a b)
  in_links i j a b (suc (suc (suc (suc (suc k))))) l lt e = absurd (omega (arith, lt))

  cell_draws : (block : ℕ → ℕ → ℕ) (p : Point) (i j : ℕ) → i + 1 < f.rows → j + 1 < f.cols → CellDraws f block p i j → OnDrawn f block p
  cell_draws block p i j a b (ByLink d) = OnLink d.link (in_links i j a b d.there.0 d.link d.there.1 d.there.2) d.at
  cell_draws block p i j a b (ByChord upper on) = OnChord (tri i j upper) (in_tris i j upper a b) on

  -- a line near a point of a cell is a line of the mesh
  pub near_draws : (block : ℕ → ℕ → ℕ) (p : Point) (i j : ℕ) → i + 1 < f.rows → j + 1 < f.cols → NearDraws f block p i j → OnDrawn f block p
  near_draws block p i j a b d = cell_draws block p d.row d.draws.col (⊎_elim (λ e. omega (arith, e, a)) (λ h. omega (arith, h.0, a)) d.beside) (⊎_elim (λ e. omega (arith, e, b)) (λ h. omega (arith, h.0, b)) d.draws.beside) d.draws.draws
