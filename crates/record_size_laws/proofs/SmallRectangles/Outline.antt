-- How long the outline of a rectangle is.
use Rattle.std.proofs.Common.{◌≡◌, ℕ, ◌+◌, ◌≤◌, ℤ, pos, ◌+ℤ◌, ◌≤ℤ◌, Bool, true, false, cond, not, ◌&&◌, Some, None, List, [], ◌∷◌, ◌++◌, map, length, refl, sym, ◌∙◌, subst, arith}
use Rattle.std.specs.Prelude.{flat_map, option_map}
use Rattle.std.proofs.lemmas.Int.{ints}
use Rattle.mesh_definitions.specs.Faces.{boundary, steps_of}
use Rattle.mesh_definitions.specs.Field.{Field}
use Rattle.mesh_definitions.specs.Mesh.{each_place, first, has_cell, links, second, tris}
use Rattle.mesh_definitions.specs.Pieces.{Mesh, ahead, back, chord_levels, left_of, mesh_of, part_bands, piece_at}
use Rattle.mesh_definitions.specs.declared.Link.{Link}
use Rattle.mesh_definitions.specs.declared.Piece.{Piece}
use Rattle.mesh_definitions.specs.declared.Rect.{Rect}
use Rattle.mesh_definitions.specs.declared.Step.{Step}
use Rattle.mesh_definitions.specs.declared.Sub.TheVariants.{Part, Chord}
use Rattle.mesh_definitions.specs.declared.Sub.{Sub}
use Rattle.mesh_definitions.specs.declared.Way.TheVariants.{Across, Down, Slant}
use Rattle.mesh_definitions.specs.declared.Way.{Way}
use Rattle.mesh_laws.proofs.Places.{total-flat_map}
use Rattle.mesh_laws.proofs.Triangles.{tri}
use Rattle.plane_laws.specs.Borders.{total, within}
use Rattle.plane_laws.proofs.Sums.{total-append, total-map, total-zero, total_same}
use Rattle.record_size_laws.proofs.SmallRectangles.Bounds.{all_in, places_at_most, total_at_most}
use Rattle.record_size_laws.proofs.SmallRectangles.Faces.{count_passed, over_steps}
use Rattle.record_size_laws.proofs.SmallRectangles.Parts.{has_data, most_parts, parts_few}

-- every piece
abbrev any : Piece → Bool
any p = true

-- 1 for a step that has something on the right and nothing on the left
abbrev rim : Bool → Bool → ℤ
rim right left = cond (right && not left) (pos 1) (pos 0)

-- of the two ways along a sub-segment at most one is
rim_once : (a b : Bool) → (rim a b +ℤ rim b a) ≤ℤ pos 1
rim_once true true = omega (arith, ints)
rim_once true false = omega (arith, ints)
rim_once false true = omega (arith, ints)
rim_once false false = omega (arith, ints)

few_for_any : (a b : Bool) → most_parts a b ≤ 21
few_for_any true true = omega arith
few_for_any true false = omega arith
few_for_any false b = omega arith

module _ (f : Field) (few : length f.levels ≤ 20) (r : Rect) (low : r.rows ≤ 16) (narrow : r.cols ≤ 16) (block : ℕ → ℕ → ℕ) where
  abbrev m : Mesh
  m = mesh_of f r block

  abbrev at_step : Step → ℤ
  at_step s = rim (within any (m.right_of s)) (within any (left_of m s))

  abbrev at_sub : Sub → ℤ
  at_sub s = at_step (ahead s) +ℤ at_step (back (ahead s))

  -- a link in one of its parts, and in all of them
  abbrev at_link : Link → ℤ
  at_link l = total at_sub (map (Part l) (part_bands f l))

  link_short : (l : Link) → at_link l ≤ℤ pos 21
  link_short l =
      let k = parts_few f few l in
      let most = few_for_any (has_data f (first l)) (has_data f (second l)) in
      let count = k.few in
      let e = total-map at_sub (Part l) (part_bands f l) in
      let p = total_at_most (λ b. at_sub (Part l b)) (λ b. pos 1) (part_bands f l) (λ b i. rim_once (within any (m.right_of (ahead (Part l b)))) (within any (left_of m (ahead (Part l b))))) in
      let q : total (λ b. pos 1) (part_bands f l) ≤ℤ pos k.count = subst (λ ks. total (λ b. pos 1) ks ≤ℤ pos k.count) (sym k.is) (all_in true k.start k.count) in
      omega (arith, ints, most, count, e, p, q)

  -- whether a slanting link has something on a side, in a cell that is there or isn't
  abbrev cell_side : ℕ → ℕ → ℕ → Bool → Bool → Bool
  cell_side i j b there u = within any (option_map (piece_at f b) (cond there (Some (tri i j u)) None))

  -- it has the triangles of one cell on its sides
  slant_part : (i j b : ℕ) → at_sub (Part (record { way = Slant; row = i; col = j }) b) ≡ pos 0
  slant_part i j b = by (has_cell r i j)
    where
      by : (c : Bool) → rim (cell_side i j b c false) (cell_side i j b c true) +ℤ rim (cell_side i j b c true) (cell_side i j b c false) ≡ pos 0
      by true = refl
      by false = refl

  slant_none : (i j : ℕ) → at_link (record { way = Slant; row = i; col = j }) ≡ pos 0
  slant_none i j =
      let l : Link = record { way = Slant; row = i; col = j } in
      total-map at_sub (Part l) (part_bands f l)
      ∙ (total_same (λ b. at_sub (Part l b)) (λ b. pos 0) (slant_part i j) (part_bands f l)
      ∙ total-zero (part_bands f l))

  abbrev one_link : Way → ℕ → ℕ → List Link
  one_link way i j = record { way = way; row = i; col = j } ∷ []

  links_short : total at_link (links r) ≤ℤ pos 11424
  links_short =
      let across = each_place r.row (r.rows + 1) r.col r.cols (one_link Across) in
      let down = each_place r.row r.rows r.col (r.cols + 1) (one_link Down) in
      let slant = each_place r.row r.rows r.col r.cols (one_link Slant) in
      let single : (way : Way) (i j : ℕ) → total at_link (one_link way i j) ≤ℤ pos 21 = λ way i j. let k = link_short (record { way = way; row = i; col = j }) in omega (arith, ints, k) in
      let none : (i j : ℕ) → total at_link (one_link Slant i j) ≤ℤ pos 0 = λ i j. let k = slant_none i j in omega (arith, ints, k) in
      let a = places_at_most at_link (one_link Across) 21 336 r.row (r.rows + 1) r.col r.cols (single Across) (omega (arith, narrow)) in
      let d = places_at_most at_link (one_link Down) 21 357 r.row r.rows r.col (r.cols + 1) (single Down) (omega (arith, narrow)) in
      let s = places_at_most at_link (one_link Slant) 0 0 r.row r.rows r.col r.cols none (omega arith) in
      let e = total-append at_link (across ++ down) slant in
      let g = total-append at_link across down in
      omega (arith, ints, low, a, d, s, e, g)

  chords_none : total at_sub (flat_map (λ t. map (Chord t) (chord_levels f t)) (tris r)) ≡ pos 0
  chords_none =
      total-flat_map at_sub (λ t. map (Chord t) (chord_levels f t)) (tris r)
      ∙ (total_same (λ t. total at_sub (map (Chord t) (chord_levels f t))) (λ t. pos 0) (λ t. total-map at_sub (Chord t) (chord_levels f t) ∙ total-zero (chord_levels f t)) (tris r)
      ∙ total-zero (tris r))

  -- the outline has no more steps than the links along rows and columns have parts
  pub outline_short : length (boundary m (λ p. true)) ≤ 11424
  outline_short =
      let count = count_passed (λ s. within any (m.right_of s) && not (within any (left_of m s))) (steps_of m) in
      let both = over_steps m at_step in
      let parts = flat_map (λ l. map (Part l) (part_bands f l)) (links r) in
      let chords = flat_map (λ t. map (Chord t) (chord_levels f t)) (tris r) in
      let e = total-append at_sub parts chords in
      let g = total-flat_map at_sub (λ l. map (Part l) (part_bands f l)) (links r) in
      let k = links_short in
      let n = chords_none in
      omega (arith, ints, count, both, e, g, k, n)
