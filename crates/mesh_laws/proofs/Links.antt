-- The links of a rectangle: each stands once.
use Rattle.std.proofs.Common.{◌≡◌, ⊎_elim, inl, arith, refl, ℕ, ◌+◌, ◌-◌, ◌<◌, ◌≤◌, List, [], ◌∷◌, ◌++◌, sym, ap, ◌∙◌}
use Rattle.std.specs.Prelude.{flat_map}
use Rattle.std.specs.List.{range_with_len}
use Rattle.mesh_definitions.specs.Field.{Field}
use Rattle.mesh_definitions.specs.Mesh.{all_cells, each_place, links}
use Rattle.mesh_definitions.specs.declared.Link.{Link}
use Rattle.mesh_definitions.specs.declared.Rect.{Rect}
use Rattle.mesh_definitions.specs.declared.Way.TheVariants.{Across, Down, Slant}
use Rattle.mesh_definitions.specs.declared.Way.{Way}
use Rattle.mesh_laws.proofs.Once.{distinct_append, distinct_flat_map, distinct_range}
use Rattle.mesh_laws.proofs.Places.{in_range}
use Rattle.plane_laws.proofs.Lists.{from_append, from_flat_map, in_flat_map}
use Rattle.plane_laws.proofs.Members.{In, Distinct, in_left, in_right}

abbrev pub link : Way → ℕ → ℕ → Link
link way i j = record { way = way; row = i; col = j }

abbrev pub one_link : Way → ℕ → ℕ → List Link
one_link way i j = link way i j ∷ []

abbrev pub places : Way → ℕ → ℕ → ℕ → ℕ → List Link
places way row rows col cols = each_place row rows col cols (one_link way)

-- the one link at a place
at_place : (way : Way) (i j : ℕ) (l : Link) → In (one_link way i j) l → link way i j ≡ l
at_place way i j l k = ⊎_elim (λ e. e) (λ n. absurd n) k

way_of : (way : Way) (row rows col cols : ℕ) (l : Link) → In (places way row rows col cols) l → l.way ≡ way
way_of way row rows col cols l i =
    let line = λ (x : ℕ). flat_map (one_link way x) (range_with_len col cols) in
    let a = from_flat_map line (range_with_len row rows) l i in
    let b = from_flat_map (one_link way a.0) (range_with_len col cols) l a.2 in
    sym (ap (λ z. z.way) (at_place way a.0 b.0 l b.2))

distinct_places : (way : Way) (row rows col cols : ℕ) → Distinct (places way row rows col cols)
distinct_places way row rows col cols =
    let line = λ (x : ℕ). flat_map (one_link way x) (range_with_len col cols) in
    distinct_flat_map line (λ l. l.row) (range_with_len row rows)
    (λ x l k. let b = from_flat_map (one_link way x) (range_with_len col cols) l k in sym (ap (λ z. z.row) (at_place way x b.0 l b.2)))
    (λ x. distinct_flat_map (one_link way x) (λ l. l.col) (range_with_len col cols) (λ y l k. sym (ap (λ z. z.col) (at_place way x y l k))) (λ y. (λ n. n, tt)) (distinct_range col cols))
    (distinct_range row rows)

abbrev pub across : Rect → List Link
across r = places Across r.row (r.rows + 1) r.col r.cols

abbrev pub down : Rect → List Link
down r = places Down r.row r.rows r.col (r.cols + 1)

abbrev pub slant : Rect → List Link
slant r = places Slant r.row r.rows r.col r.cols

-- each link stands once
pub distinct_links : (r : Rect) → Distinct (links r)
distinct_links r = distinct_append (across r ++ down r) (slant r)
    (distinct_append (across r) (down r) (distinct_places Across r.row (r.rows + 1) r.col r.cols) (distinct_places Down r.row r.rows r.col (r.cols + 1))
    (λ l a b. let g = sym (way_of Across r.row (r.rows + 1) r.col r.cols l a) ∙ way_of Down r.row r.rows r.col (r.cols + 1) l b in absurd (cc (g))))
    (distinct_places Slant r.row r.rows r.col r.cols)
    (λ l a b.
    let s = way_of Slant r.row r.rows r.col r.cols l b in
    ⊎_elim
    (λ c. let g = sym (way_of Across r.row (r.rows + 1) r.col r.cols l c) ∙ s in absurd (cc (g)))
    (λ c. let g = sym (way_of Down r.row r.rows r.col (r.cols + 1) l c) ∙ s in absurd (cc (g)))
    (from_append (across r) (down r) l a))

-- ---- the links that a rectangle has

pub in_places : (way : Way) (row rows col cols i j : ℕ) → row ≤ i → i < row + rows → col ≤ j → j < col + cols → In (places way row rows col cols) (link way i j)
in_places way row rows col cols i j north south west east =
    in_flat_map (λ (x : ℕ). flat_map (one_link way x) (range_with_len col cols)) (range_with_len row rows) i (link way i j) (in_range row rows i north south)
    (in_flat_map (one_link way i) (range_with_len col cols) j (link way i j) (in_range col cols j west east) (inl refl))

module _ (r : Rect) (i j : ℕ) where
  pub across_in : r.row ≤ i → i < r.row + (r.rows + 1) → r.col ≤ j → j < r.col + r.cols → In (links r) (link Across i j)
  across_in north south west east = in_left (across r ++ down r) (slant r) (link Across i j) (in_left (across r) (down r) (link Across i j) (in_places Across r.row (r.rows + 1) r.col r.cols i j north south west east))

  pub down_in : r.row ≤ i → i < r.row + r.rows → r.col ≤ j → j < r.col + (r.cols + 1) → In (links r) (link Down i j)
  down_in north south west east = in_left (across r ++ down r) (slant r) (link Down i j) (in_right (across r) (down r) (link Down i j) (in_places Down r.row r.rows r.col (r.cols + 1) i j north south west east))

  pub slant_in : r.row ≤ i → i < r.row + r.rows → r.col ≤ j → j < r.col + r.cols → In (links r) (link Slant i j)
  slant_in north south west east = in_right (across r ++ down r) (slant r) (link Slant i j) (in_places Slant r.row r.rows r.col r.cols i j north south west east)

-- those of a field's cells
module _ (f : Field) (i j : ℕ) where
  pub field_across : i < f.rows - 1 + 1 → j < f.cols - 1 → In (links (all_cells f)) (link Across i j)
  field_across south east =
      let n : 0 ≤ i = omega arith in
      let s : i < 0 + (f.rows - 1 + 1) = omega (arith, south) in
      let w : 0 ≤ j = omega arith in
      let e : j < 0 + (f.cols - 1) = omega (arith, east) in
      across_in (all_cells f) i j n s w e

  pub field_down : i < f.rows - 1 → j < f.cols - 1 + 1 → In (links (all_cells f)) (link Down i j)
  field_down south east =
      let n : 0 ≤ i = omega arith in
      let s : i < 0 + (f.rows - 1) = omega (arith, south) in
      let w : 0 ≤ j = omega arith in
      let e : j < 0 + (f.cols - 1 + 1) = omega (arith, east) in
      down_in (all_cells f) i j n s w e

  pub field_slant : i < f.rows - 1 → j < f.cols - 1 → In (links (all_cells f)) (link Slant i j)
  field_slant south east =
      let n : 0 ≤ i = omega arith in
      let s : i < 0 + (f.rows - 1) = omega (arith, south) in
      let w : 0 ≤ j = omega arith in
      let e : j < 0 + (f.cols - 1) = omega (arith, east) in
      slant_in (all_cells f) i j n s w e
