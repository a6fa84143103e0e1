-- What the lists of a mesh have: triangles, links, pieces and sub-segments.
use Rattle.std.proofs.Common.{◌≡◌, ℕ, ◌+◌, ◌<◌, ◌≤◌, ⊎_elim, Bool, true, false, List, [], ◌∷◌, ◌++◌, length, map, ap, subst, arith}
use Rattle.std.specs.Prelude.{Contains, flat_map}
use Rattle.std.specs.List.{range_with_len}
use Rattle.std.proofs.lemmas.List.Elements.{Contains-append_left, Contains-append_right, Contains-append_cases}
use Rattle.mesh_definitions.specs.Field.{Field}
use Rattle.mesh_definitions.specs.Mesh.{has_cell, each_place, links, tris}
use Rattle.mesh_definitions.specs.Pieces.{mesh_of, pieces_of, part_bands, chord_levels}
use Rattle.mesh_definitions.specs.declared.Link.{Link}
use Rattle.mesh_definitions.specs.declared.Piece.{Piece}
use Rattle.mesh_definitions.specs.declared.Rect.{Rect}
use Rattle.mesh_definitions.specs.declared.Sub.TheVariants.{Part, Chord}
use Rattle.mesh_definitions.specs.declared.Tri.{Tri}
use Rattle.mesh_definitions.specs.declared.Way.TheVariants.{Across, Down, Slant}
use Rattle.mesh_definitions.specs.declared.Way.{Way}
use Rattle.face_fill.specs.Numbered.{first_band}
use Rattle.face_fill.specs.Items.{tri_of, leg}
use Rattle.face_fill.specs.Ends.{in_pieces, of_pieces}
use Rattle.face_fill.specs.Legs.{InRect, in_rect, has_it, each_leg}
use Rattle.face_fill.specs.Listing.{in_range, of_range, in_map, of_map, in_first, in_rest, in_either, in_nothing, in_flat_map, of_flat_map}

in_place : {X : Type 0} (row rows col cols : ℕ) (make : ℕ → ℕ → List X) (i j : ℕ) (x : X) → row ≤ i → i < row + rows → col ≤ j → j < col + cols → Contains (make i j) x → Contains (each_place row rows col cols make) x
in_place row rows col cols make i j x n s w e c =
    in_flat_map (λ i. flat_map (make i) (range_with_len col cols)) (range_with_len row rows) i x (in_range row rows i n s)
    (in_flat_map (make i) (range_with_len col cols) j x (in_range col cols j w e) c)

-- ---- triangles

pub in_tris : (r : Rect) (t : Tri) → has_cell r t.row t.col ≡ true → Contains (tris r) t
in_tris r t h =
    let c = in_rect r t.row t.col h in
    in_place r.row r.rows r.col r.cols (λ i j. tri_of i j true ∷ tri_of i j false ∷ []) t.row t.col t c.north c.south c.west c.east (by t.row t.col t.upper)
  where
    by : (i j : ℕ) (u : Bool) → Contains (tri_of i j true ∷ tri_of i j false ∷ []) (tri_of i j u)
    by i j true = in_first (tri_of i j true) (tri_of i j false ∷ [])
    by i j false = in_rest (tri_of i j true) (tri_of i j false) (tri_of i j false ∷ []) (in_first (tri_of i j false) [])

pub of_tris : (r : Rect) (t : Tri) → Contains (tris r) t → has_cell r t.row t.col ≡ true
of_tris r t c =
    let a = of_flat_map (λ i. flat_map (λ j. tri_of i j true ∷ tri_of i j false ∷ []) (range_with_len r.col r.cols)) (range_with_len r.row r.rows) t c in
    let b = of_flat_map (λ j. tri_of a.0 j true ∷ tri_of a.0 j false ∷ []) (range_with_len r.col r.cols) t a.2 in
    let rows = of_range r.row r.rows a.0 a.1 in
    let cols = of_range r.col r.cols b.0 b.1 in
    let e : (a.0 ≡ t.row) × (b.0 ≡ t.col) = one a.0 b.0 b.2 in
    has_it r t.row t.col (record { north = omega (arith, rows.0, e.0); south = omega (arith, rows.1, e.0); west = omega (arith, cols.0, e.1); east = omega (arith, cols.1, e.1) })
  where
    same : (i j : ℕ) (u : Bool) → tri_of i j u ≡ t → (i ≡ t.row) × (j ≡ t.col)
    same i j u e = (ap (λ (x : Tri). x.row) e, ap (λ (x : Tri). x.col) e)

    one : (i j : ℕ) → Contains (tri_of i j true ∷ tri_of i j false ∷ []) t → (i ≡ t.row) × (j ≡ t.col)
    one i j d = ⊎_elim (λ e. same i j true e)
        (λ d. ⊎_elim (λ e. same i j false e) (λ d. absurd (in_nothing t d)) (in_either (tri_of i j false) t [] d))
        (in_either (tri_of i j true) t (tri_of i j false ∷ []) d)

-- ---- the links of triangles

abbrev only : Way → ℕ → ℕ → List Link
only way i j = record { way = way; row = i; col = j } ∷ []

module _ (r : Rect) where
  level : (l : Link) → Contains (each_place r.row (r.rows + 1) r.col r.cols (only Across)) l → Contains (links r) l
  level l c = Contains-append_left (each_place r.row (r.rows + 1) r.col r.cols (only Across) ++ each_place r.row r.rows r.col (r.cols + 1) (only Down)) (each_place r.row r.rows r.col r.cols (only Slant)) l
      (Contains-append_left (each_place r.row (r.rows + 1) r.col r.cols (only Across)) (each_place r.row r.rows r.col (r.cols + 1) (only Down)) l c)

  upright : (l : Link) → Contains (each_place r.row r.rows r.col (r.cols + 1) (only Down)) l → Contains (links r) l
  upright l c = Contains-append_left (each_place r.row (r.rows + 1) r.col r.cols (only Across) ++ each_place r.row r.rows r.col (r.cols + 1) (only Down)) (each_place r.row r.rows r.col r.cols (only Slant)) l
      (Contains-append_right (each_place r.row (r.rows + 1) r.col r.cols (only Across)) (each_place r.row r.rows r.col (r.cols + 1) (only Down)) l c)

  slanting : (l : Link) → Contains (each_place r.row r.rows r.col r.cols (only Slant)) l → Contains (links r) l
  slanting l c = Contains-append_right (each_place r.row (r.rows + 1) r.col r.cols (only Across) ++ each_place r.row r.rows r.col (r.cols + 1) (only Down)) (each_place r.row r.rows r.col r.cols (only Slant)) l c

  legs_in : (i k : ℕ) (u : Bool) → InRect r i k → (j : Way) → Contains (links r) (leg (tri_of i k u) j).link
  legs_in i k true c j = each_leg (tri_of i k true) (λ w. Contains (links r) w.link)
      (slanting (record { way = Slant; row = i; col = k }) (in_place r.row r.rows r.col r.cols (only Slant) i k (record { way = Slant; row = i; col = k }) c.north c.south c.west c.east (in_first (record { way = Slant; row = i; col = k }) [])))
      (level (record { way = Across; row = i; col = k }) (in_place r.row (r.rows + 1) r.col r.cols (only Across) i k (record { way = Across; row = i; col = k }) c.north (omega (arith, c.south)) c.west c.east (in_first (record { way = Across; row = i; col = k }) [])))
      (upright (record { way = Down; row = i; col = k }) (in_place r.row r.rows r.col (r.cols + 1) (only Down) i k (record { way = Down; row = i; col = k }) c.north c.south c.west (omega (arith, c.east)) (in_first (record { way = Down; row = i; col = k }) [])))
      j
  legs_in i k false c j = each_leg (tri_of i k false) (λ w. Contains (links r) w.link)
      (slanting (record { way = Slant; row = i; col = k }) (in_place r.row r.rows r.col r.cols (only Slant) i k (record { way = Slant; row = i; col = k }) c.north c.south c.west c.east (in_first (record { way = Slant; row = i; col = k }) [])))
      (level (record { way = Across; row = i + 1; col = k }) (in_place r.row (r.rows + 1) r.col r.cols (only Across) (i + 1) k (record { way = Across; row = i + 1; col = k }) (omega (arith, c.north)) (omega (arith, c.south)) c.west c.east (in_first (record { way = Across; row = i + 1; col = k }) [])))
      (upright (record { way = Down; row = i; col = k + 1 }) (in_place r.row r.rows r.col (r.cols + 1) (only Down) i (k + 1) (record { way = Down; row = i; col = k + 1 }) c.north c.south (omega (arith, c.west)) (omega (arith, c.east)) (in_first (record { way = Down; row = i; col = k + 1 }) [])))
      j

  pub leg_in : (t : Tri) → has_cell r t.row t.col ≡ true → (j : Way) → Contains (links r) (leg t j).link
  leg_in t h j = legs_in t.row t.col t.upper (in_rect r t.row t.col h) j

-- ---- pieces

-- the piece is one of a triangle of the rectangle
pub record InMesh (f : Field) (r : Rect) (p : Piece) : Type 0 where
  pub cell : has_cell r p.tri.row p.tri.col ≡ true
  pub low : first_band f p.tri ≤ p.band
  pub high : p.band < first_band f p.tri + length (pieces_of f p.tri)

module _ (f : Field) (r : Rect) (block : ℕ → ℕ → ℕ) where
  pub in_list : (p : Piece) → InMesh f r p → Contains (mesh_of f r block).pieces p
  in_list p h = in_flat_map (pieces_of f) (tris r) p.tri p (in_tris r p.tri h.cell) (in_pieces f p.tri p.band h.low h.high)

  pub of_list : (p : Piece) → Contains (mesh_of f r block).pieces p → InMesh f r p
  of_list p c =
      let a = of_flat_map (pieces_of f) (tris r) p c in
      let b = of_pieces f a.0 p a.2 in
      let cell = of_tris r a.0 a.1 in
      let P : Tri → Type 0 = λ t. (has_cell r t.row t.col ≡ true) × (first_band f t ≤ p.band) × (p.band < first_band f t + length (pieces_of f t)) in
      let d : P p.tri = subst P b.0 (cell, b.1, b.2) in
      record { cell = d.0; low = d.1; high = d.2 }

  -- ---- sub-segments

  pub in_parts : (l : Link) (b : ℕ) → Contains (links r) l → Contains (part_bands f l) b → Contains (mesh_of f r block).subs (Part l b)
  in_parts l b c d = Contains-append_left (flat_map (λ l. map (Part l) (part_bands f l)) (links r)) (flat_map (λ t. map (Chord t) (chord_levels f t)) (tris r)) (Part l b)
      (in_flat_map (λ l. map (Part l) (part_bands f l)) (links r) l (Part l b) c (in_map (Part l) (part_bands f l) b d))

  pub of_parts : (l : Link) (b : ℕ) → Contains (mesh_of f r block).subs (Part l b) → Contains (part_bands f l) b
  of_parts l b c = ⊎_elim
      (λ d. let x = of_flat_map (λ l. map (Part l) (part_bands f l)) (links r) (Part l b) d in
      let y = of_map (Part x.0) (part_bands f x.0) (Part l b) x.2 in
      let e : (x.0 ≡ l) × (y.0 ≡ b) = (cc (y.2), cc (y.2)) in
      subst (λ l. Contains (part_bands f l) b) e.0 (subst (λ b. Contains (part_bands f x.0) b) e.1 y.1))
      (λ d. let x = of_flat_map (λ t. map (Chord t) (chord_levels f t)) (tris r) (Part l b) d in
      let y = of_map (Chord x.0) (chord_levels f x.0) (Part l b) x.2 in
      cc (y.2))
      (Contains-append_cases (flat_map (λ l. map (Part l) (part_bands f l)) (links r)) (flat_map (λ t. map (Chord t) (chord_levels f t)) (tris r)) (Part l b) c)

  pub of_chords : (t : Tri) (k : ℕ) → Contains (mesh_of f r block).subs (Chord t k) → Contains (chord_levels f t) k
  of_chords t k c = ⊎_elim
      (λ d. let x = of_flat_map (λ l. map (Part l) (part_bands f l)) (links r) (Chord t k) d in
      let y = of_map (Part x.0) (part_bands f x.0) (Chord t k) x.2 in
      cc (y.2))
      (λ d. let x = of_flat_map (λ t. map (Chord t) (chord_levels f t)) (tris r) (Chord t k) d in
      let y = of_map (Chord x.0) (chord_levels f x.0) (Chord t k) x.2 in
      let e : (x.0 ≡ t) × (y.0 ≡ k) = (cc (y.2), cc (y.2)) in
      subst (λ t. Contains (chord_levels f t) k) e.0 (subst (λ k. Contains (chord_levels f x.0) k) e.1 y.1))
      (Contains-append_cases (flat_map (λ l. map (Part l) (part_bands f l)) (links r)) (flat_map (λ t. map (Chord t) (chord_levels f t)) (tris r)) (Chord t k) c)
