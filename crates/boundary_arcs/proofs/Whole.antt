-- What is collected way by way and chord by chord are the drawn sub-segments of the mesh, in its order.
use Rattle.std.proofs.Common.{◌≡◌, ℕ, zero, suc, ◌+◌, ◌-◌, ◌≤◌, Bool, true, false, cond, Some, None, List, [], ◌∷◌, ◌++◌, map, filter, true≢false, eqb, refl, sym, ap, ap₂, ◌∙◌, arith}
use Rattle.std.specs.Prelude.{Option, option_map, Contains, IsFalse, ◌↔◌}
use Rattle.std.specs.List.{range_with_len, flat_map}
use Rattle.std.proofs.lemmas.Bool.{eqb-true, eq-eqb}
use Rattle.std.proofs.lemmas.Bool.Decides.{nat_tests}
use Rattle.std.proofs.lemmas.List.{append-nil}
use Rattle.std.proofs.lemmas.List.Concat.{flat_map-append}
use Rattle.std.proofs.lemmas.List.Elements.{Contains-append_left}
use Rattle.std.proofs.lemmas.List.Folds.{flat_map-map}
use Rattle.boundary_arcs.specs.Collecting.{chords_drawn, chord_seen, if_drawn, link_at, link_drawn, part_seen, same_side, tri_at, tri_drawn, walk_along, way_drawn}
use Rattle.boundary_arcs.specs.Nets.{all_drawn, drawn_of}
use Rattle.boundary_arcs.specs.declared.net.Drawn.{Drawn}
use Rattle.mesh_definitions.specs.Faces.{NumbersFaces, borders, is_drawn}
use Rattle.mesh_definitions.specs.Field.{Field}
use Rattle.mesh_definitions.specs.Mesh.{all_cells, each_place, links, right_tri, surveyed, tris}
use Rattle.mesh_definitions.specs.Pieces.{Mesh, chord_levels, greatest_band, least_band, part_bands, piece_at, span, whole_mesh}
use Rattle.mesh_definitions.specs.declared.Link.{Link}
use Rattle.mesh_definitions.specs.declared.Piece.{Piece}
use Rattle.mesh_definitions.specs.declared.Sub.TheVariants.{Part, Chord}
use Rattle.mesh_definitions.specs.declared.Sub.{Sub}
use Rattle.mesh_definitions.specs.declared.Tri.{Tri}
use Rattle.mesh_definitions.specs.declared.Way.TheVariants.{Across, Down, Slant}
use Rattle.face_fill.specs.Numbered.{FacesView, face_in}
use Rattle.mesh_laws.specs.FaceLaws.{DrawnParts}
use Rattle.plane_laws.specs.Borders.{HasPieces}

-- ---- lists made of lists

filter_step : {X Y : Type 0} (p : X → Bool) (d : X → Y) (x : X) (xs : List X) → map d (filter p xs) ≡ flat_map (λ z. cond (p z) (d z ∷ []) []) xs → map d (filter p (x ∷ xs)) ≡ flat_map (λ z. cond (p z) (d z ∷ []) []) (x ∷ xs)
filter_step p d x xs h = by (p x)
  where
    by : (b : Bool) → map d (cond b (x ∷ filter p xs) (filter p xs)) ≡ cond b (d x ∷ []) [] ++ flat_map (λ z. cond (p z) (d z ∷ []) []) xs
    by true = ap (λ r. d x ∷ r) h
    by false = h

map_filter : {X Y : Type 0} (p : X → Bool) (d : X → Y) (xs : List X) → map d (filter p xs) ≡ flat_map (λ x. cond (p x) (d x ∷ []) []) xs
map_filter p d [] = refl
map_filter p d (x ∷ xs) = filter_step p d x xs (map_filter p d xs)

flat_map_twice : {X Y Z : Type 0} (h : Y → List Z) (g : X → List Y) (xs : List X) → flat_map h (flat_map g xs) ≡ flat_map (λ x. flat_map h (g x)) xs
flat_map_twice h g [] = refl
flat_map_twice h g (x ∷ xs) = flat_map-append h (g x) (flat_map g xs) ∙ ap (λ r. flat_map h (g x) ++ r) (flat_map_twice h g xs)

in_first : {X : Type 0} (x : X) (xs : List X) → Contains (x ∷ xs) x
in_first x xs = (0, omega arith, refl)

in_rest : {X : Type 0} (y x : X) (xs : List X) → Contains xs x → Contains (y ∷ xs) x
in_rest y x xs c = (suc c.0, omega (arith, c.1), c.2)

flat_map_same : {X Y : Type 0} (g h : X → List Y) (xs : List X) → ((x : X) → Contains xs x → g x ≡ h x) → flat_map g xs ≡ flat_map h xs
flat_map_same g h [] e = refl
flat_map_same g h (x ∷ xs) e = ap₂ (λ a b. a ++ b) (e x (in_first x xs)) (flat_map_same g h xs (λ y c. e y (in_rest x y xs c)))

-- over a rectangle of places, with one or two things at each
one_each : {X Y : Type 0} (h : X → List Y) (x : ℕ → ℕ → X) (row rows col cols : ℕ)
    → flat_map h (each_place row rows col cols (λ i j. x i j ∷ [])) ≡ flat_map (λ i. flat_map (λ j. h (x i j)) (range_with_len col cols)) (range_with_len row rows)
one_each h x row rows col cols =
    flat_map_twice h (λ i. flat_map (λ j. x i j ∷ []) (range_with_len col cols)) (range_with_len row rows)
    ∙ flat_map_same (λ i. flat_map h (flat_map (λ j. x i j ∷ []) (range_with_len col cols))) (λ i. flat_map (λ j. h (x i j)) (range_with_len col cols)) (range_with_len row rows)
    (λ i _. flat_map_twice h (λ j. x i j ∷ []) (range_with_len col cols) ∙ flat_map_same (λ j. flat_map h (x i j ∷ [])) (λ j. h (x i j)) (range_with_len col cols) (λ j _. append-nil (h (x i j))))

two_each : {X Y : Type 0} (h : X → List Y) (x y : ℕ → ℕ → X) (row rows col cols : ℕ)
    → flat_map h (each_place row rows col cols (λ i j. x i j ∷ y i j ∷ [])) ≡ flat_map (λ i. flat_map (λ j. h (x i j) ++ h (y i j)) (range_with_len col cols)) (range_with_len row rows)
two_each h x y row rows col cols =
    flat_map_twice h (λ i. flat_map (λ j. x i j ∷ y i j ∷ []) (range_with_len col cols)) (range_with_len row rows)
    ∙ flat_map_same (λ i. flat_map h (flat_map (λ j. x i j ∷ y i j ∷ []) (range_with_len col cols))) (λ i. flat_map (λ j. h (x i j) ++ h (y i j)) (range_with_len col cols)) (range_with_len row rows)
    (λ i _. flat_map_twice h (λ j. x i j ∷ y i j ∷ []) (range_with_len col cols) ∙ flat_map_same (λ j. flat_map h (x i j ∷ y i j ∷ [])) (λ j. h (x i j) ++ h (y i j)) (range_with_len col cols) (λ j _. ap (λ r. h (x i j) ++ r) (append-nil (h (y i j)))))

-- ---- sides

twice_mapped : {X Y Z : Type 0} (g : Y → Z) (h : X → Y) (o : Option X) → option_map g (option_map h o) ≡ option_map (λ x. g (h x)) o
twice_mapped g h None = refl
twice_mapped g h (Some x) = refl

same_if_true : (a b : Option ℕ) → same_side a b ≡ true → a ≡ b
same_if_true None None e = refl
same_if_true None (Some b) e = absurd (true≢false (sym e))
same_if_true (Some a) None e = absurd (true≢false (sym e))
same_if_true (Some a) (Some b) e = ap Some (eqb-true a b e)

true_if_same : (a b : Option ℕ) → a ≡ b → same_side a b ≡ true
true_if_same None None e = refl
true_if_same None (Some b) e = cc (e)
true_if_same (Some a) None e = cc (e)
true_if_same (Some a) (Some b) e = let same : a ≡ b = cc (e) in eq-eqb a b same

-- what is not drawn exactly where its sides are the same is drawn where they differ
drawn_by_sides : (b : Bool) (d : Drawn) → IsFalse b ↔ (d.right ≡ d.left) → cond b (d ∷ []) [] ≡ if_drawn d
drawn_by_sides true d h = by (same_side d.left d.right) refl
  where
    by : (s : Bool) → same_side d.left d.right ≡ s → d ∷ [] ≡ cond s [] (d ∷ [])
    by true e = absurd (true≢false (h.1 (sym (same_if_true d.left d.right e))))
    by false e = refl
drawn_by_sides false d h = ap (λ s. cond s [] (d ∷ [])) (sym (true_if_same d.left d.right (sym (h.0 refl))))

-- ---- the whole mesh

module _ (f : Field) (v : FacesView) (block : ℕ → ℕ → ℕ) where
  abbrev m : Mesh
  m = whole_mesh f block

  abbrev face : Piece → ℕ
  face = face_in f v

  -- a sub-segment of the mesh where it is drawn
  abbrev shown : Sub → List Drawn
  shown s = cond (is_drawn m s) (drawn_of m face s ∷ []) []

  -- the same, of the part of a link by the faces on its sides
  abbrev shown_part : Sub → List Drawn
  shown_part (Part l b) = if_drawn (part_seen f v l b)
  shown_part (Chord t k) = shown (Chord t k)

  part_is_seen : (l : Link) (b : ℕ) → drawn_of m face (Part l b) ≡ part_seen f v l b
  part_is_seen l b =
      ap₂ (λ x y. let d : Drawn = record { seg = m.ends (Part l b); left = x; right = y } in d)
      (twice_mapped face (piece_at f b) (right_tri (all_cells f) (walk_along l false)))
      (twice_mapped face (piece_at f b) (right_tri (all_cells f) (walk_along l true)))

  abbrev all_parts : List Sub
  all_parts = flat_map (λ l. map (Part l) (part_bands f l)) (links (all_cells f))

  abbrev all_chords : List Sub
  all_chords = flat_map (λ t. map (Chord t) (chord_levels f t)) (tris (all_cells f))

  module _ (law : DrawnParts) (has : HasPieces (borders m) m.pieces) (numbers : NumbersFaces m face) where
    part_shown : (s : Sub) → Contains all_parts s → shown s ≡ shown_part s
    part_shown (Part l b) c =
        drawn_by_sides (is_drawn m (Part l b)) (drawn_of m face (Part l b)) (law m face has numbers (Part l b) (Contains-append_left all_parts all_chords (Part l b) c))
        ∙ ap if_drawn (part_is_seen l b)
    part_shown (Chord t k) c = refl

    parts_shown : flat_map shown all_parts ≡ flat_map (link_drawn f v) (links (all_cells f))
    parts_shown =
        flat_map_same shown shown_part all_parts part_shown
        ∙ (flat_map_twice shown_part (λ l. map (Part l) (part_bands f l)) (links (all_cells f))
        ∙ flat_map_same (λ l. flat_map shown_part (map (Part l) (part_bands f l))) (link_drawn f v) (links (all_cells f)) (λ l _. flat_map-map shown_part (Part l) (part_bands f l)))

  -- ---- chords

  chord_is_drawn : (t : Tri) (k : ℕ) → surveyed f t ≡ true → 1 ≤ k → is_drawn m (Chord t k) ≡ true
  chord_is_drawn t k e l =
      let apart : eqb k (k - 1) ≡ false = grind (arith, nat_tests) in
      rw e (rw apart refl)

  levels_shown : (t : Tri) (a n : ℕ) → surveyed f t ≡ true → 1 ≤ a → flat_map (λ k. shown (Chord t k)) (range_with_len a n) ≡ map (chord_seen f v t) (range_with_len a n)
  levels_shown t a zero e l = refl
  levels_shown t a (suc n) e l =
      ap₂ (λ x y. x ++ y) (ap (λ b. cond b (chord_seen f v t a ∷ []) []) (chord_is_drawn t a e l)) (levels_shown t (a + 1) n e (omega (arith, l)))

  chord_shown : (t : Tri) → flat_map (λ k. shown (Chord t k)) (chord_levels f t) ≡ tri_drawn f v t
  chord_shown t = by (surveyed f t) refl
    where
      by : (b : Bool) → surveyed f t ≡ b → flat_map (λ k. shown (Chord t k)) (cond b (span (least_band f t + 1) (greatest_band f t)) []) ≡ map (chord_seen f v t) (cond b (span (least_band f t + 1) (greatest_band f t)) [])
      by true e = levels_shown t (least_band f t + 1) (greatest_band f t + 1 - (least_band f t + 1)) e (omega arith)
      by false e = refl

  chords_shown : flat_map shown all_chords ≡ chords_drawn f v (f.rows - 1) (f.cols - 1)
  chords_shown =
      flat_map_twice shown (λ t. map (Chord t) (chord_levels f t)) (tris (all_cells f))
      ∙ (flat_map_same (λ t. flat_map shown (map (Chord t) (chord_levels f t))) (tri_drawn f v) (tris (all_cells f)) (λ t _. flat_map-map shown (Chord t) (chord_levels f t) ∙ chord_shown t)
      ∙ two_each (tri_drawn f v) (λ i j. tri_at i j true) (λ i j. tri_at i j false) 0 (f.rows - 1) 0 (f.cols - 1))

  -- ---- links

  abbrev across : List Link
  across = each_place 0 (f.rows - 1 + 1) 0 (f.cols - 1) (λ i j. link_at Across i j ∷ [])

  abbrev down : List Link
  down = each_place 0 (f.rows - 1) 0 (f.cols - 1 + 1) (λ i j. link_at Down i j ∷ [])

  abbrev slant : List Link
  slant = each_place 0 (f.rows - 1) 0 (f.cols - 1) (λ i j. link_at Slant i j ∷ [])

  links_drawn : (rows cols : ℕ) → f.rows ≡ rows → f.cols ≡ cols → f.rows - 1 + 1 ≡ rows → f.cols - 1 + 1 ≡ cols
      → flat_map (link_drawn f v) (links (all_cells f)) ≡ (way_drawn f v Across rows (cols - 1) ++ way_drawn f v Down (rows - 1) cols) ++ way_drawn f v Slant (rows - 1) (cols - 1)
  links_drawn rows cols r c some_rows some_cols =
      let fewer_rows : f.rows - 1 ≡ rows - 1 = ap (λ n. n - 1) r in
      let fewer_cols : f.cols - 1 ≡ cols - 1 = ap (λ n. n - 1) c in
      let a : flat_map (link_drawn f v) across ≡ way_drawn f v Across rows (cols - 1) =
      one_each (link_drawn f v) (link_at Across) 0 (f.rows - 1 + 1) 0 (f.cols - 1) ∙ ap₂ (way_drawn f v Across) some_rows fewer_cols in
      let d : flat_map (link_drawn f v) down ≡ way_drawn f v Down (rows - 1) cols =
      one_each (link_drawn f v) (link_at Down) 0 (f.rows - 1) 0 (f.cols - 1 + 1) ∙ ap₂ (way_drawn f v Down) fewer_rows some_cols in
      let s : flat_map (link_drawn f v) slant ≡ way_drawn f v Slant (rows - 1) (cols - 1) =
      one_each (link_drawn f v) (link_at Slant) 0 (f.rows - 1) 0 (f.cols - 1) ∙ ap₂ (way_drawn f v Slant) fewer_rows fewer_cols in
      flat_map-append (link_drawn f v) (across ++ down) slant
      ∙ ap₂ (λ x y. x ++ y) (flat_map-append (link_drawn f v) across down ∙ ap₂ (λ x y. x ++ y) a d) s

  -- all drawn sub-segments, in the order in which they are collected
  pub whole_drawn : DrawnParts → HasPieces (borders m) m.pieces → NumbersFaces m face → (rows cols : ℕ) → f.rows ≡ rows → f.cols ≡ cols → 1 ≤ rows → 1 ≤ cols
      → all_drawn m face ≡ ((way_drawn f v Across rows (cols - 1) ++ way_drawn f v Down (rows - 1) cols) ++ way_drawn f v Slant (rows - 1) (cols - 1)) ++ chords_drawn f v (rows - 1) (cols - 1)
  whole_drawn law has numbers rows cols r c some_rows some_cols =
      map_filter (is_drawn m) (drawn_of m face) m.subs
      ∙ (flat_map-append shown all_parts all_chords
      ∙ ap₂ (λ x y. x ++ y) (parts_shown law has numbers ∙ links_drawn rows cols r c (omega (arith, r, some_rows)) (omega (arith, c, some_cols))) (chords_shown ∙ ap₂ (λ x y. chords_drawn f v (x - 1) (y - 1)) r c))
