-- The outline of all pieces of a mesh is that of the coverage.
use Rattle.std.proofs.Common.{◌≡◌, ◌≢◌, ℕ, zero, suc, ◌+◌, ◌-◌, ◌<◌, ◌≤◌, ℤ, pos, ◌+ℤ◌, neg_ℤ, ◌≤ℤ◌, Bool, true, false, cond, ◌&&◌, eqb, Option, Some, None, List, [], ◌∷◌, ◌++◌, map, refl, sym, ap, ap₂, ◌∙◌, arith}
use Rattle.std.specs.Prelude.{flat_map, int_le, int_lt, option_map}
use Rattle.std.specs.List.{range_with_len}
use Rattle.std.proofs.lemmas.Bool.Decides.{nat_tests}
use Rattle.std.proofs.lemmas.Int.{ints}
use Rattle.mesh_definitions.specs.Faces.{boundary}
use Rattle.mesh_definitions.specs.Field.{Field, IsField, point}
use Rattle.mesh_definitions.specs.Laws.{WalksBothWays}
use Rattle.mesh_definitions.specs.Mesh.{Walk, all_cells, each_place, first, second, from, to, has_cell, links, right_tri, tris}
use Rattle.mesh_definitions.specs.Pieces.{ahead, back, walked, whole_mesh, piece_at, part_bands, chord_ends, chord_levels}
use Rattle.mesh_definitions.specs.declared.Link.{Link}
use Rattle.mesh_definitions.specs.declared.Piece.{Piece}
use Rattle.mesh_definitions.specs.declared.Step.{Step}
use Rattle.mesh_definitions.specs.declared.Sub.TheVariants.{Part, Chord}
use Rattle.mesh_definitions.specs.declared.Sub.{Sub}
use Rattle.mesh_definitions.specs.declared.Tri.{Tri}
use Rattle.mesh_definitions.specs.declared.Way.TheVariants.{Across, Down, Slant}
use Rattle.mesh_definitions.specs.declared.Way.{Way}
use Rattle.mesh_laws.proofs.Legs.{walked_part}
use Rattle.mesh_laws.proofs.Places.{in_range_high, total-flat_map, total_range_at}
use Rattle.mesh_laws.proofs.Shares.{chosen, along_subs, gain_of}
use Rattle.plane_geom.specs.Geom.{cross_of, winding_number, IsOn}
use Rattle.plane_geom.specs.declared.Point.{Point}
use Rattle.plane_geom.specs.declared.Seg.{Seg}
use Rattle.plane_laws.specs.Borders.{total, within}
use Rattle.plane_laws.specs.Outlines.{seg, outline, rectangle}
use Rattle.plane_laws.specs.SumLaws.{BoundarySum}
use Rattle.plane_laws.proofs.Algebra.{ring, V, Sub as Less, Mul}
use Rattle.plane_laws.proofs.Counts.{count_is, turns_back, points_count_nothing}
use Rattle.plane_laws.proofs.Cuts.{cut_at_point}
use Rattle.plane_laws.proofs.Lines.{on_turned}
use Rattle.plane_laws.proofs.Members.{In, contains}
use Rattle.plane_laws.proofs.Passing.{passes_level}
use Rattle.plane_laws.proofs.Rectangles.{rectangle_count}
use Rattle.plane_laws.proofs.Sums.{total_same, total_agree, total-append, total-map, total-add, total-zero}
use Rattle.tri_mesh.proofs.Between.{in_order}
use Rattle.mesh_counts_laws.specs.Counts.{OutlineIsCoverage, NoneBeyond}
use Rattle.mesh_counts_laws.proofs.Inside.{link_leg}
use Rattle.mesh_counts_laws.proofs.Rounds.{IsLeg}
use Rattle.mesh_counts_laws.proofs.Slots.{other_back}
use Rattle.mesh_counts_laws.proofs.Triangles.{turn_at, whole_leg}

-- a level segment counts nothing
level_none : (p a b : Point) → a.y ≡ b.y → turn_at p (seg a b) ≡ pos 0
level_none p a b e = passes_level p.y a.y b.y (cross_of p a b) e

-- of two values that cancel, both or none
both_or_none : (c : Bool) (x y : ℤ) → y ≡ neg_ℤ x → cond c x (pos 0) +ℤ cond c y (pos 0) ≡ pos 0
both_or_none true x y e = omega (arith, ints, e)
both_or_none false x y e = refl

no_value : (c d : Bool) (x y : ℤ) → x ≡ pos 0 → y ≡ pos 0 → cond c x (pos 0) +ℤ cond d y (pos 0) ≡ pos 0
no_value true true x y e k = omega (arith, ints, e, k)
no_value true false x y e k = omega (arith, ints, e)
no_value false true x y e k = omega (arith, ints, k)
no_value false false x y e k = refl

-- a sum over places that have nothing
places_none : {X : Type 0} (g : X → ℤ) (row rows col cols : ℕ) (make : ℕ → ℕ → List X) → ((i j : ℕ) → total g (make i j) ≡ pos 0) → total g (each_place row rows col cols make) ≡ pos 0
places_none g row rows col cols make none =
    let cells = range_with_len col cols in
    let line = λ (i : ℕ). flat_map (make i) cells in
    total-flat_map g line (range_with_len row rows)
    ∙ (total_same (λ i. total g (line i)) (λ i. pos 0) (λ i. total-flat_map g (make i) cells ∙ (total_same (λ j. total g (make i j)) (λ j. pos 0) (none i) cells ∙ total-zero cells)) (range_with_len row rows)
    ∙ total-zero (range_with_len row rows))

module _ (f : Field) (h : IsField f) (block : ℕ → ℕ → ℕ) (p : Point) where
  abbrev g : Seg → ℤ
  g = turn_at p

  abbrev all : Piece → Bool
  all q = true

  abbrev gain : Step → ℤ
  gain s = gain_of f (all_cells f) block g all s

  abbrev both_ways : Sub → ℤ
  both_ways s = gain (ahead s) +ℤ gain (back (ahead s))

  -- ---- links

  -- whether a walked link has a triangle on its right
  abbrev inner : Walk → Bool
  inner w = within (λ t. true) (right_tri (all_cells f) w)

  abbrev whole : Walk → ℤ
  whole w = cond (inner w) (g (seg (point f (from w)) (point f (to w)))) (pos 0)

  abbrev on : Link → Walk
  on l = record { link = l; forward = true }

  abbrev off : Link → Walk
  off l = record { link = l; forward = false }

  abbrev link_value : Link → ℤ
  link_value l = whole (on l) +ℤ whole (off l)

  side : (k : ℕ) (o : Option Tri) → within all (option_map (piece_at f k) o) ≡ within (λ t. true) o
  side k None = refl
  side k (Some t) = refl

  of_walk : (w : Walk) → IsLeg f h w → total (λ k. cond (within all (option_map (piece_at f k) (right_tri (all_cells f) w))) (g (walked_part f w k)) (pos 0)) (part_bands f w.link) ≡ whole w
  of_walk w l =
      total_same (λ k. cond (within all (option_map (piece_at f k) (right_tri (all_cells f) w))) (g (walked_part f w k)) (pos 0)) (λ k. cond (inner w) (g (walked_part f w k)) (pos 0))
      (λ k. ap (λ c. cond c (g (walked_part f w k)) (pos 0)) (side k (right_tri (all_cells f) w))) (part_bands f w.link)
      ∙ (chosen (inner w) (λ k. g (walked_part f w k)) (part_bands f w.link)
      ∙ ap (λ z. cond (inner w) z (pos 0)) (whole_leg f h p w l))

  of_link : (l : Link) → In (links (all_cells f)) l → total both_ways (map (Part l) (part_bands f l)) ≡ link_value l
  of_link l there =
      let leg = link_leg f h l (contains (links (all_cells f)) l there) in
      let back_leg : IsLeg f h (off l) = record { begins = leg.ends; ends = leg.begins; other = other_back (first l) (second l) leg.other } in
      let one = λ (w : Walk) (k : ℕ). cond (within all (option_map (piece_at f k) (right_tri (all_cells f) w))) (g (walked_part f w k)) (pos 0) in
      total-map both_ways (Part l) (part_bands f l)
      ∙ (total-add (one (on l)) (one (off l)) (part_bands f l)
      ∙ ap₂ ◌+ℤ◌ (of_walk (on l) leg) (of_walk (off l) back_leg))

  abbrev parts : List Sub
  parts = flat_map (λ l. map (Part l) (part_bands f l)) (links (all_cells f))

  abbrev chorded : List Sub
  chorded = flat_map (λ t. map (Chord t) (chord_levels f t)) (tris (all_cells f))

  of_parts : total both_ways parts ≡ total link_value (links (all_cells f))
  of_parts =
      total-flat_map both_ways (λ l. map (Part l) (part_bands f l)) (links (all_cells f))
      ∙ total_agree (λ l. total both_ways (map (Part l) (part_bands f l))) link_value (links (all_cells f)) of_link

  of_tri : (t : Tri) → total both_ways (map (Chord t) (chord_levels f t)) ≡ pos 0
  of_tri t =
      total-map both_ways (Chord t) (chord_levels f t)
      ∙ (total_same (λ k. both_ways (Chord t k)) (λ k. pos 0) (λ k. both_or_none true (g (chord_ends f t k)) _ (turns_back (chord_ends f t k) p)) (chord_levels f t)
      ∙ total-zero (chord_levels f t))

  of_chords : total both_ways chorded ≡ pos 0
  of_chords =
      total-flat_map both_ways (λ t. map (Chord t) (chord_levels f t)) (tris (all_cells f))
      ∙ (total_same (λ t. total both_ways (map (Chord t) (chord_levels f t))) (λ t. pos 0) of_tri (tris (all_cells f))
      ∙ total-zero (tris (all_cells f)))

  -- ---- the three ways of links

  abbrev rows : ℕ
  rows = f.rows - 1

  abbrev cols : ℕ
  cols = f.cols - 1

  abbrev link : Way → ℕ → ℕ → Link
  link way i j = record { way = way; row = i; col = j }

  abbrev only : Way → ℕ → ℕ → List Link
  only way i j = link way i j ∷ []

  zero_alone : {x : ℤ} → x ≡ pos 0 → x +ℤ pos 0 ≡ pos 0
  zero_alone e = omega (arith, ints, e)

  acrosses : total link_value (each_place 0 (rows + 1) 0 cols (only Across)) ≡ pos 0
  acrosses = places_none link_value 0 (rows + 1) 0 cols (only Across) (λ i j. zero_alone (no_value (inner (on (link Across i j))) (inner (off (link Across i j))) _ _
      (level_none p (point f (record { row = i; col = j })) (point f (record { row = i; col = j + 1 })) refl)
      (level_none p (point f (record { row = i; col = j + 1 })) (point f (record { row = i; col = j })) refl)))

  of_cell : (c : Bool) (t : Tri) → within (λ t. true) (cond c (Some t) None) ≡ c
  of_cell true t = refl
  of_cell false t = refl

  two_values : (c d e k : Bool) (x y : ℤ) → c ≡ e → d ≡ k → cond c x (pos 0) +ℤ cond d y (pos 0) ≡ cond e x (pos 0) +ℤ cond k y (pos 0)
  two_values c d e k x y a b = ap₂ (λ u v. cond u x (pos 0) +ℤ cond v y (pos 0)) a b

  abbrev place : ℕ → ℕ → Point
  place i j = point f (record { row = i; col = j })

  slants : total link_value (each_place 0 rows 0 cols (only Slant)) ≡ pos 0
  slants = places_none link_value 0 rows 0 cols (only Slant) (λ i j. zero_alone (
      two_values (inner (on (link Slant i j))) (inner (off (link Slant i j))) (has_cell (all_cells f) i j) (has_cell (all_cells f) i j) (g (seg (place (i + 1) j) (place i (j + 1)))) (g (seg (place i (j + 1)) (place (i + 1) j)))
      (of_cell (has_cell (all_cells f) i j) (record { row = i; col = j; upper = false })) (of_cell (has_cell (all_cells f) i j) (record { row = i; col = j; upper = true }))
      ∙ both_or_none (has_cell (all_cells f) i j) (g (seg (place (i + 1) j) (place i (j + 1)))) _ (turns_back (seg (place (i + 1) j) (place i (j + 1))) p)))

  -- ---- the links that run south: those of the western and eastern sides alone have one triangle

  abbrev south : ℕ → ℕ → ℤ
  south i j = g (seg (place i j) (place (i + 1) j))

  abbrev north : ℕ → ℕ → ℤ
  north i j = g (seg (place (i + 1) j) (place i j))

  some_cols : 1 ≤ cols
  some_cols = let k = h.some_cols in omega (arith, k)

  -- the value of one of them
  down_value : (i j : ℕ) (c d : Bool) → inner (on (link Down i j)) ≡ c → inner (off (link Down i j)) ≡ d → link_value (link Down i j) ≡ cond c (south i j) (pos 0) +ℤ cond d (north i j) (pos 0)
  down_value i j c d a b = two_values (inner (on (link Down i j))) (inner (off (link Down i j))) c d (south i j) (north i j) a b

  there : (i j : ℕ) → i < rows → j < cols → has_cell (all_cells f) i j ≡ true
  there i j a b = grind (arith, nat_tests, a, b)

  not_there : (i j : ℕ) → cols ≤ j → has_cell (all_cells f) i j ≡ false
  not_there i j a = grind (arith, nat_tests, a)

  next_alike : (i j : ℕ) → i < rows → cols ≢ suc j → has_cell (all_cells f) i j ≡ has_cell (all_cells f) i (suc j)
  next_alike i j a d = grind (arith, nat_tests, a, d)

  abbrev sides : ℕ → ℕ → ℤ
  sides i j = cond (eqb 0 j) (north i j) (pos 0) +ℤ cond (eqb cols j) (south i j) (pos 0)

  down_is : (i j : ℕ) → i < rows → link_value (link Down i j) ≡ sides i j
  down_is i zero l =
      let e : eqb cols 0 ≡ false = let k = some_cols in grind (arith, nat_tests, k) in
      down_value i zero false true refl (of_cell (has_cell (all_cells f) i 0) (record { row = i; col = 0; upper = true }) ∙ there i 0 l some_cols)
      ∙ (in_turn (north i 0) ∙ ap (λ c. north i 0 +ℤ cond c (south i 0) (pos 0)) (sym e))
    where
      in_turn : (z : ℤ) → pos 0 +ℤ z ≡ z +ℤ pos 0
      in_turn z = omega (arith, ints)
  down_is i (suc j) l = by (eqb cols (suc j)) refl ∙ ap (λ c. cond c (north i (suc j)) (pos 0) +ℤ cond (eqb cols (suc j)) (south i (suc j)) (pos 0)) (sym first_off)
    where
      first_off : eqb 0 (suc j) ≡ false
      first_off = grind (arith, nat_tests)

      by : (c : Bool) → eqb cols (suc j) ≡ c → link_value (link Down i (suc j)) ≡ pos 0 +ℤ cond c (south i (suc j)) (pos 0)
      by true e =
          let k : cols ≡ suc j = grind (arith, nat_tests, e) in
          down_value i (suc j) true false (of_cell (has_cell (all_cells f) i j) (record { row = i; col = j; upper = false }) ∙ there i j l (omega (arith, k))) (of_cell (has_cell (all_cells f) i (suc j)) (record { row = i; col = suc j; upper = true }) ∙ not_there i (suc j) (omega (arith, k)))
          ∙ in_turn (south i (suc j))
        where
          in_turn : (z : ℤ) → z +ℤ pos 0 ≡ pos 0 +ℤ z
          in_turn z = omega (arith, ints)
      by false e =
          let d : cols ≢ suc j = grind (arith, nat_tests, e) in
          down_value i (suc j) (has_cell (all_cells f) i (suc j)) (has_cell (all_cells f) i (suc j)) (of_cell (has_cell (all_cells f) i j) (record { row = i; col = j; upper = false }) ∙ next_alike i j l d) (of_cell (has_cell (all_cells f) i (suc j)) (record { row = i; col = suc j; upper = true }))
          ∙ both_or_none (has_cell (all_cells f) i (suc j)) (south i (suc j)) (north i (suc j)) (turns_back (seg (place i (suc j)) (place (i + 1) (suc j))) p)

  one_alone : (z : ℤ) → z +ℤ pos 0 ≡ z
  one_alone z = omega (arith, ints)

  row_is : (i : ℕ) → i < rows → total link_value (flat_map (only Down i) (range_with_len 0 (cols + 1))) ≡ north i 0 +ℤ south i cols
  row_is i l =
      let cells = range_with_len 0 (cols + 1) in
      total-flat_map link_value (only Down i) cells
      ∙ (total_same (λ j. total link_value (only Down i j)) (sides i) (λ j. one_alone (link_value (link Down i j)) ∙ down_is i j l) cells
      ∙ (total-add (λ j. cond (eqb 0 j) (north i j) (pos 0)) (λ j. cond (eqb cols j) (south i j) (pos 0)) cells
      ∙ ap₂ ◌+ℤ◌ (total_range_at (north i) 0 0 (cols + 1) (omega arith) (omega arith)) (total_range_at (south i) cols 0 (cols + 1) (omega arith) (omega arith))))

  -- ---- a side, from link to link

  falls : (i k : ℕ) → i ≤ k → k < f.rows → f.y k ≤ℤ f.y i
  falls i k l m =
      let s = in_order (λ i. neg_ℤ (f.y i)) f.rows (λ a b c d. let t = h.southwards a b c d in omega (arith, ints, t)) i k l m in
      omega (arith, ints, s)

  upright : (x a b c : ℤ) → c ≤ℤ b → b ≤ℤ a → (let u : Point = record { x = x; y = a } in let v : Point = record { x = x; y = c } in let w : Point = record { x = x; y = b } in IsOn (seg u v) w)
  upright x a b c l m = record {
    line = ring (Less (Mul (Less (V x) (V x)) (Less (V b) (V a))) (Mul (Less (V c) (V a)) (Less (V x) (V x)))) (V (pos 0)) (omega arith);
    wide = grind (arith, ints);
    high = grind (arith, ints, l, m);
  }

  down_side : (j a n : ℕ) → a + n < f.rows → total (λ i. south i j) (range_with_len a n) ≡ g (seg (place a j) (place (a + n) j))
  down_side j a zero l = let e : a ≡ a + 0 = omega arith in sym (points_count_nothing (place a j) p) ∙ ap (λ k. g (seg (place a j) (place k j))) e
  down_side j a (suc n) l =
      let e : a + 1 + n ≡ a + suc n = omega arith in
      let on = upright (f.x j) (f.y a) (f.y (a + 1)) (f.y (a + 1 + n)) (falls (a + 1) (a + 1 + n) (omega arith) (omega (arith, l))) (falls a (a + 1) (omega arith) (omega (arith, l))) in
      ap (λ z. south a j +ℤ z) (down_side j (a + 1) n (omega (arith, l)))
      ∙ (cut_at_point (seg (place a j) (place (a + 1 + n) j)) (place (a + 1) j) p on
      ∙ ap (λ k. g (seg (place a j) (place k j))) e)

  up_side : (j a n : ℕ) → a + n < f.rows → total (λ i. north i j) (range_with_len a n) ≡ g (seg (place (a + n) j) (place a j))
  up_side j a zero l = let e : a ≡ a + 0 = omega arith in sym (points_count_nothing (place a j) p) ∙ ap (λ k. g (seg (place k j) (place a j))) e
  up_side j a (suc n) l =
      let e : a + 1 + n ≡ a + suc n = omega arith in
      let on = upright (f.x j) (f.y a) (f.y (a + 1)) (f.y (a + 1 + n)) (falls (a + 1) (a + 1 + n) (omega arith) (omega (arith, l))) (falls a (a + 1) (omega arith) (omega (arith, l))) in
      let c = cut_at_point (seg (place (a + 1 + n) j) (place a j)) (place (a + 1) j) p (on_turned (seg (place a j) (place (a + 1 + n) j)) (place (a + 1) j) on) in
      ap (λ z. north a j +ℤ z) (up_side j (a + 1) n (omega (arith, l)))
      ∙ (in_turn (north a j) (g (seg (place (a + 1 + n) j) (place (a + 1) j))) ∙ (c
      ∙ ap (λ k. g (seg (place k j) (place a j))) e))
    where
      in_turn : (x y : ℤ) → x +ℤ y ≡ y +ℤ x
      in_turn x y = omega (arith, ints)

  downs : total link_value (each_place 0 rows 0 (cols + 1) (only Down)) ≡ g (seg (place rows 0) (place 0 0)) +ℤ g (seg (place 0 cols) (place rows cols))
  downs =
      let line = λ (i : ℕ). flat_map (only Down i) (range_with_len 0 (cols + 1)) in
      let short : 0 + rows < f.rows = let k = h.some_rows in omega (arith, k) in
      let e : 0 + rows ≡ rows = omega arith in
      total-flat_map link_value line (range_with_len 0 rows)
      ∙ (total_agree (λ i. total link_value (line i)) (λ i. north i 0 +ℤ south i cols) (range_with_len 0 rows) (λ i l. let k = in_range_high 0 rows i l in row_is i (omega (arith, k)))
      ∙ (total-add (λ i. north i 0) (λ i. south i cols) (range_with_len 0 rows)
      ∙ (ap₂ ◌+ℤ◌ (up_side 0 0 rows short) (down_side cols 0 rows short)
      ∙ ap (λ n. g (seg (place n 0) (place 0 0)) +ℤ g (seg (place 0 cols) (place n cols))) e)))

  of_links : total link_value (links (all_cells f)) ≡ g (seg (place rows 0) (place 0 0)) +ℤ g (seg (place 0 cols) (place rows cols))
  of_links =
      let a = each_place 0 (rows + 1) 0 cols (only Across) in
      let d = each_place 0 rows 0 (cols + 1) (only Down) in
      let s = each_place 0 rows 0 cols (only Slant) in
      total-append link_value (a ++ d) s
      ∙ (ap₂ ◌+ℤ◌ (total-append link_value a d ∙ ap₂ ◌+ℤ◌ acrosses downs) slants
      ∙ alone (g (seg (place rows 0) (place 0 0)) +ℤ g (seg (place 0 cols) (place rows cols))))
    where
      alone : (z : ℤ) → (pos 0 +ℤ z) +ℤ pos 0 ≡ z
      alone z = omega (arith, ints)

  -- ---- the four sides

  abbrev covers : Bool
  covers = (int_le (f.x 0) p.x && int_lt p.x (f.x cols)) && (int_le (f.y rows) p.y && int_lt p.y (f.y 0))

  round : g (seg (place rows 0) (place 0 0)) +ℤ g (seg (place 0 cols) (place rows cols)) ≡ cond covers (pos 1) (pos 0)
  round =
      let n = h.some_rows in
      let wide : f.x 0 ≤ℤ f.x cols = in_order f.x f.cols h.eastwards 0 cols (omega arith) (omega (arith, some_cols)) in
      let high : f.y rows ≤ℤ f.y 0 = falls 0 rows (omega arith) (omega (arith, n)) in
      four (g (seg (place rows 0) (place 0 0))) (g (seg (place 0 cols) (place rows cols)))
      (level_none p (place 0 0) (place 0 cols) refl) (level_none p (place rows cols) (place rows 0) refl)
      (count_is (outline (rectangle (f.x 0) (f.y rows) (f.x cols) (f.y 0))) p)
      ∙ rectangle_count (f.x 0) (f.y rows) (f.x cols) (f.y 0) p wide high
    where
      four : (left right : ℤ) {top bottom all : ℤ} → top ≡ pos 0 → bottom ≡ pos 0 → all ≡ top +ℤ (right +ℤ (bottom +ℤ (left +ℤ pos 0))) → left +ℤ right ≡ all
      four left right e k l = omega (arith, ints, e, k, l)

  counts_all : BoundarySum Step Piece → WalksBothWays → winding_number (map (walked (whole_mesh f block)) (boundary (whole_mesh f block) all)) p ≡ cond covers (pos 1) (pos 0)
  counts_all sum ways =
      let m = whole_mesh f block in
      count_is (map (walked m) (boundary m all)) p
      ∙ (total-map g (walked m) (boundary m all)
      ∙ (along_subs sum ways f (all_cells f) block g (λ s. turns_back s p) all
      ∙ (total-append both_ways parts chorded
      ∙ (ap₂ ◌+ℤ◌ (of_parts ∙ of_links) of_chords
      ∙ (one_alone (g (seg (place rows 0) (place 0 0)) +ℤ g (seg (place 0 cols) (place rows cols)))
      ∙ round)))))

pub outline_is_coverage : BoundarySum Step Piece → WalksBothWays → OutlineIsCoverage
outline_is_coverage sum ways f block h p = counts_all f h block p sum ways

pub none_beyond : OutlineIsCoverage → NoneBeyond
none_beyond exact f block h p beyond = exact f block h p ∙ by (covers f h block p) refl
  where
    in_sides : (a b c d x y : ℤ) → ((int_le a x && int_lt x b) && (int_le c y && int_lt y d)) ≡ true → (a ≤ℤ x) × (x ≤ℤ b) × (c ≤ℤ y) × (y ≤ℤ d)
    in_sides a b c d x y e = (grind (arith, ints, e), grind (arith, ints, e), grind (arith, ints, e), grind (arith, ints, e))

    by : (c : Bool) → covers f h block p ≡ c → cond c (pos 1) (pos 0) ≡ pos 0
    by true e =
        let s = in_sides (f.x 0) (f.x (f.cols - 1)) (f.y (f.rows - 1)) (f.y 0) p.x p.y e in
        absurd (beyond (record { west = s.0; east = s.1; south = s.2; north = s.3 }))
    by false e = refl
