-- The directed boundary of a block runs along the outline of its rectangle: rings of it are one ring.
use Rattle.std.proofs.Common.{◌≡◌, ◌≢◌, ⊎_elim, inl, inr, ℕ, zero, suc, ◌+◌, ◌-◌, ◌<◌, ◌≤◌, min, max, ℤ, pos, neg_ℤ, ◌≤ℤ◌, ◌<ℤ◌, Bool, true, false, cond, not, ◌&&◌, eqb, Option, Some, None, List, [], ◌∷◌, ◌++◌, map, flat_map, length, refl, sym, ap, ap₂, subst, ◌∙◌, arith, eq-eqb}
use Rattle.std.specs.Prelude.{int_lt, option_map}
use Rattle.std.proofs.lemmas.Bool.{and_parts, cases_order, eqb-true, false≢true}
use Rattle.std.proofs.lemmas.Bool.Decides.{nat_tests}
use Rattle.std.proofs.lemmas.Int.{ints, by_lt_z}
use Rattle.std.proofs.lemmas.List.Elements.{All-contains, All-cons, All-nil}
use Rattle.std.proofs.lemmas.List.Sorted.{Contains-permutation, IsPermutation-sym}
use Rattle.block_laws.proofs.Flags.{at_most_one}
use Rattle.block_laws.proofs.Going.{one_begins, walk_goes}
use Rattle.block_laws.proofs.Rounds.{Eastwards, Northwards, Runs, Southwards, Westwards, at_corner, comes, flag, one_at_most, only_north, some_area}
use Rattle.block_laws.proofs.Steps.{AreLong, in_links, point_same}
use Rattle.block_laws.specs.OneRing.{BlocksHaveOneRing, IsOneExterior}
use Rattle.mesh_definitions.specs.Blocks.{IsBlocks, IsSubRect}
use Rattle.mesh_definitions.specs.Faces.{boundary, steps_of}
use Rattle.mesh_definitions.specs.Field.{Field, IsField, node_band, point}
use Rattle.mesh_definitions.specs.Mesh.{all_cells, first, has_cell, links, second}
use Rattle.mesh_definitions.specs.Pieces.{Mesh, back, part_bands, part_ends, piece_at, span, walked, whole_mesh}
use Rattle.mesh_definitions.specs.Rings.{AreRingsOf, IsRing, area_sum, is_exterior}
use Rattle.mesh_definitions.specs.declared.Link.{Link}
use Rattle.mesh_definitions.specs.declared.Piece.{Piece}
use Rattle.mesh_definitions.specs.declared.Rect.{Rect}
use Rattle.mesh_definitions.specs.declared.Step.{Step}
use Rattle.mesh_definitions.specs.declared.Sub.TheVariants.{Part, Chord}
use Rattle.mesh_definitions.specs.declared.Sub.{Sub}
use Rattle.mesh_definitions.specs.declared.Tri.{Tri}
use Rattle.mesh_definitions.specs.declared.Way.TheVariants.{Across, Down, Slant}
use Rattle.mesh_definitions.specs.declared.Way.{Way}
use Rattle.mesh_counts_laws.proofs.Inside.{link_leg}
use Rattle.mesh_counts_laws.proofs.Rounds.{IsLeg}
use Rattle.mesh_laws.proofs.Links.{link}
use Rattle.mesh_laws.proofs.Once.{part_there, step_sub}
use Rattle.mesh_laws.proofs.Places.{in_range}
use Rattle.mesh_laws.proofs.Subs.{distinct_steps, in_parts, link_there, step_in}
use Rattle.mesh_laws.proofs.Triangles.{cell_has, is_cell}
use Rattle.plane_geom.specs.Segments.{turned}
use Rattle.plane_geom.specs.declared.Point.{Point}
use Rattle.plane_geom.specs.declared.Seg.{Seg}
use Rattle.plane_laws.proofs.Lists.{from_append, from_map, distinct_filter, from_filter, in_filter}
use Rattle.plane_laws.proofs.Members.{In, contains, in_map, is_in}
use Rattle.plane_laws.proofs.Sums.{total-IsPermutation, total-map}
use Rattle.plane_laws.specs.Borders.{total, within}
use Rattle.tri_mesh.proofs.Between.{in_order}

abbrev part_step : Way → ℕ → ℕ → ℕ → Bool → Step
part_step way i j b forward = record { sub = Part (link way i j) b; forward = forward }

not_both : (b : Bool) → (b && not b) ≡ true → ⊥
not_both true e = false≢true e
not_both false e = false≢true e

is_off : (b : Bool) → not b ≡ true → b ≡ false
is_off true e = absurd (false≢true e)
is_off false e = refl

-- ---- a link has a part

some_band : (f : Field) (l : Link) → (b : ℕ) × In (part_bands f l) b
some_band f l = by (node_band f (first l)) (node_band f (second l)) refl refl
  where
    by : (x y : Option ℕ) → node_band f (first l) ≡ x → node_band f (second l) ≡ y → (b : ℕ) × In (part_bands f l) b
    by None y e g = (0, subst (λ bands. In bands 0) (let k : 0 ∷ [] ≡ part_bands f l = rw e refl in k) (inl refl))
    by (Some x) None e g = (0, subst (λ bands. In bands 0) (let k : 0 ∷ [] ≡ part_bands f l = rw (e, g) refl in k) (inl refl))
    by (Some x) (Some y) e g = (min x y, subst (λ bands. In bands (min x y)) (let k : span (min x y) (max x y) ≡ part_bands f l = rw (e, g) refl in k) (in_range (min x y) (max x y + 1 - min x y) (min x y) (omega arith) (omega arith)))

module _ (f : Field) (h : IsField f) (count : ℕ) (rect : ℕ → Rect) (block : ℕ → ℕ → ℕ) (lines : AreLong (whole_mesh f block)) (blocks : IsBlocks (all_cells f) count rect block) (k : ℕ) (l : k < count) where
  abbrev m : Mesh
  m = whole_mesh f block

  abbrev all : Rect
  all = all_cells f

  abbrev r : Rect
  r = rect k

  abbrev set : Piece → Bool
  set p = eqb (block p.tri.row p.tri.col) k

  inside : IsSubRect r all
  inside = blocks.inside k l

  abbrev w : ℤ
  w = f.x r.col

  abbrev e : ℤ
  e = f.x (r.col + r.cols)

  abbrev s : ℤ
  s = f.y (r.row + r.rows)

  abbrev n : ℤ
  n = f.y r.row

  -- ---- columns lie eastwards and rows southwards

  last_row : r.row + r.rows < f.rows
  last_row = let a = inside.south in let b = h.some_rows in omega (arith, a, b)

  last_col : r.col + r.cols < f.cols
  last_col = let a = inside.east in let b = h.some_cols in omega (arith, a, b)

  to_east : (a b : ℕ) → a ≤ b → b < f.cols → f.x a ≤ℤ f.x b
  to_east a b c d = in_order f.x f.cols h.eastwards a b c d

  to_south : (a b : ℕ) → a ≤ b → b < f.rows → f.y b ≤ℤ f.y a
  to_south a b c d =
      let t = in_order (λ i. neg_ℤ (f.y i)) f.rows (λ i k u v. let t = h.southwards i k u v in omega (arith, ints, t)) a b c d in
      omega (arith, ints, t)

  wide : w <ℤ e
  wide = h.eastwards r.col (r.col + r.cols) (let a = inside.some_cols in omega (arith, a)) last_col

  high : s <ℤ n
  high = h.southwards r.row (r.row + r.rows) (let a = inside.some_rows in omega (arith, a)) last_row

  -- ---- what lies beside a part of a link, in the block or not

  in_all : (i j : ℕ) → has_cell r i j ≡ true → has_cell all i j ≡ true
  in_all i j c =
      let a = is_cell r i j c in
      let o = inside in
      cell_has all i j (record {
        north = omega arith;
        south = omega (arith, a.south, o.south);
        west = omega arith;
        east = omega (arith, a.east, o.east);
      })

  cell_in : (i j : ℕ) → cond (has_cell all i j) (eqb (block i j) k) false ≡ has_cell r i j
  cell_in i j = by (has_cell all i j) (has_cell r i j) (eqb (block i j) k) refl refl refl
    where
      by : (a c t : Bool) → has_cell all i j ≡ a → has_cell r i j ≡ c → eqb (block i j) k ≡ t → cond a t false ≡ c
      by true true true a c t = refl
      by true false false a c t = refl
      by true true false a c t = sym t ∙ eq-eqb (block i j) k ((blocks.holds i j k a l).0 c)
      by true false true a c t = sym ((blocks.holds i j k a l).1 (eqb-true (block i j) k t)) ∙ c
      by false true t a c u = absurd (false≢true (sym a ∙ in_all i j c))
      by false false t a c u = refl

  cell_side : (b i j : ℕ) (u : Bool) → within set (option_map (piece_at f b) (cond (has_cell all i j) (Some (record { row = i; col = j; upper = u })) None)) ≡ has_cell r i j
  cell_side b i j u = by (has_cell all i j) ∙ cell_in i j
    where
      by : (c : Bool) → within set (option_map (piece_at f b) (cond c (Some (record { row = i; col = j; upper = u })) None)) ≡ cond c (eqb (block i j) k) false
      by true = refl
      by false = refl

  -- the test of a boundary
  abbrev test : Step → Bool
  test x = within set (m.right_of x) && not (within set (m.right_of (back x)))

  -- the cell on the right of a step of the boundary is in the rectangle, that on its left isn't
  one_side : (a c : Bool) (p q : Bool) → a ≡ p → c ≡ q → (a && not c) ≡ true → (p ≡ true) × (q ≡ false)
  one_side a c p q x y t = let g = and_parts a (not c) t in (sym x ∙ g.0, sym y ∙ is_off c g.1)

  -- ---- a part on each of the four sides

  leg_of : (way : Way) (i j b : ℕ) → In m.subs (Part (link way i j) b) → IsLeg f h (record { link = link way i j; forward = true })
  leg_of way i j b i' = link_leg f h (link way i j) (contains (links all) (link way i j) (link_there f all block (link way i j) b i'))

  long : (u : Sub) (forward : Bool) → In m.subs u → (walked m (record { sub = u; forward = forward })).a ≢ (walked m (record { sub = u; forward = forward })).b
  long u forward i = by forward
    where
      apart : (m.ends u).a ≢ (m.ends u).b
      apart = All-contains (λ (u : Sub). (m.ends u).a ≢ (m.ends u).b) m.subs u lines.long (contains m.subs u i)

      by : (x : Bool) → (cond x (m.ends u) (turned (m.ends u))).a ≢ (cond x (m.ends u) (turned (m.ends u))).b
      by true = apart
      by false = λ g. apart (sym g)

  strict_x : (p q : Point) → p.x ≤ℤ q.x → p.y ≡ q.y → p ≢ q → p.x <ℤ q.x
  strict_x p q c d apart = by_lt_z p.x q.x (λ t. t) (λ t. absurd (apart (point_same p q (omega (arith, ints, c, t)) d)))

  strict_y : (p q : Point) → p.y ≤ℤ q.y → p.x ≡ q.x → p ≢ q → p.y <ℤ q.y
  strict_y p q c d apart = by_lt_z p.y q.y (λ t. t) (λ t. absurd (apart (point_same p q d (omega (arith, ints, c, t)))))

  on_north : (i j b : ℕ) → In m.subs (Part (link Across i j) b) → i ≡ r.row → r.col ≤ j → j < r.col + r.cols → Eastwards w e n (walked m (part_step Across i j b true))
  on_north i j b there top west east =
      let z = walked m (part_step Across i j b true) in
      let leg = leg_of Across i j b there in
      let g = walk_goes f h (record { link = link Across i j; forward = true }) leg b in
      let c = leg.ends.col in
      let x = g.east (to_east j (j + 1) (omega arith) c) in
      let y = g.north (omega (arith, ints)) in
      let row = ap f.y top in
      let first_col = to_east r.col j west (omega (arith, c)) in
      let last = to_east (j + 1) (r.col + r.cols) (omega (arith, east)) last_col in
      let same : z.a.y ≡ z.b.y = omega (arith, ints, y.0, y.1, y.2) in
      record {
        begins = omega (arith, ints, y.0, y.1, y.2, row);
        ends = omega (arith, ints, y.0, y.1, y.2, row);
        after = omega (arith, ints, x.0, first_col);
        on = strict_x z.a z.b x.1 same (long (Part (link Across i j) b) true there);
        before = omega (arith, ints, x.2, last);
      }

  on_south : (i j b : ℕ) → In m.subs (Part (link Across i j) b) → i ≡ r.row + r.rows → r.col ≤ j → j < r.col + r.cols → Westwards w e s (walked m (part_step Across i j b false))
  on_south i j b there bottom west east =
      let z = walked m (part_step Across i j b false) in
      let leg = leg_of Across i j b there in
      let g = walk_goes f h (record { link = link Across i j; forward = false }) leg b in
      let c = leg.ends.col in
      let x = g.west (to_east j (j + 1) (omega arith) c) in
      let y = g.north (omega (arith, ints)) in
      let row = ap f.y bottom in
      let first_col = to_east r.col j west (omega (arith, c)) in
      let last = to_east (j + 1) (r.col + r.cols) (omega (arith, east)) last_col in
      let same : z.b.y ≡ z.a.y = omega (arith, ints, y.0, y.1, y.2) in
      record {
        begins = omega (arith, ints, y.0, y.1, y.2, row);
        ends = omega (arith, ints, y.0, y.1, y.2, row);
        after = omega (arith, ints, x.2, last);
        on = strict_x z.b z.a x.1 same (λ q. long (Part (link Across i j) b) false there (sym q));
        before = omega (arith, ints, x.0, first_col);
      }

  on_east : (i j b : ℕ) → In m.subs (Part (link Down i j) b) → j ≡ r.col + r.cols → r.row ≤ i → i < r.row + r.rows → Southwards e s n (walked m (part_step Down i j b true))
  on_east i j b there right north south =
      let z = walked m (part_step Down i j b true) in
      let leg = leg_of Down i j b there in
      let g = walk_goes f h (record { link = link Down i j; forward = true }) leg b in
      let c = leg.ends.row in
      let y = g.south (to_south i (i + 1) (omega arith) c) in
      let x = g.east (omega (arith, ints)) in
      let col = ap f.x right in
      let top = to_south r.row i north (omega (arith, c)) in
      let bottom = to_south (i + 1) (r.row + r.rows) (omega (arith, south)) last_row in
      let same : z.b.x ≡ z.a.x = omega (arith, ints, x.0, x.1, x.2) in
      record {
        begins = omega (arith, ints, x.0, x.1, x.2, col);
        ends = omega (arith, ints, x.0, x.1, x.2, col);
        after = omega (arith, ints, y.2, top);
        on = strict_y z.b z.a y.1 same (λ q. long (Part (link Down i j) b) true there (sym q));
        before = omega (arith, ints, y.0, bottom);
      }

  on_west : (i j b : ℕ) → In m.subs (Part (link Down i j) b) → j ≡ r.col → r.row ≤ i → i < r.row + r.rows → Northwards w s n (walked m (part_step Down i j b false))
  on_west i j b there left north south =
      let z = walked m (part_step Down i j b false) in
      let leg = leg_of Down i j b there in
      let g = walk_goes f h (record { link = link Down i j; forward = false }) leg b in
      let c = leg.ends.row in
      let y = g.north (to_south i (i + 1) (omega arith) c) in
      let x = g.east (omega (arith, ints)) in
      let col = ap f.x left in
      let top = to_south r.row i north (omega (arith, c)) in
      let bottom = to_south (i + 1) (r.row + r.rows) (omega (arith, south)) last_row in
      let same : z.a.x ≡ z.b.x = omega (arith, ints, x.0, x.1, x.2) in
      record {
        begins = omega (arith, ints, x.0, x.1, x.2, col);
        ends = omega (arith, ints, x.0, x.1, x.2, col);
        after = omega (arith, ints, y.0, bottom);
        on = strict_y z.a z.b y.1 same (long (Part (link Down i j) b) false there);
        before = omega (arith, ints, y.2, top);
      }

  -- a part that comes to the corner is one of the first link of the western side
  comes_there : (i j b : ℕ) → In m.subs (Part (link Down i j) b) → j ≡ r.col → r.row ≤ i → at_corner w n (walked m (part_step Down i j b false)).b ≡ true → i ≡ r.row
  comes_there i j b there left north t =
      let z = walked m (part_step Down i j b false) in
      let leg = leg_of Down i j b there in
      let g = walk_goes f h (record { link = link Down i j; forward = false }) leg b in
      let c = leg.ends.row in
      let y = g.north (to_south i (i + 1) (omega arith) c) in
      let up : n ≤ℤ z.b.y = grind (arith, ints, t) in
      ⊎_elim
      (λ q. q)
      (λ far. absurd (⊎_elim
      (λ less. omega (arith, north, less))
      (λ more. let d = h.southwards r.row i more (omega (arith, c)) in omega (arith, ints, y.2, up, d))
      far))
      (cases_order i r.row)

  -- ---- a step of the boundary

  record Sided (x : Step) : Type 0 where
    runs : Runs w e s n (walked m x)
    named : at_corner w n (walked m x).b ≡ true → (b : ℕ) × (x ≡ part_step Down r.row r.col b false) × In m.subs (Part (link Down r.row r.col) b)

  elsewhere : (x : Step) → (r : Runs w e s n (walked m x)) → (Northwards w s n (walked m x) → ⊥) → Sided x
  elsewhere x runs off = record { runs = runs; named = λ t. absurd (off (only_north w e s n wide high (walked m x) runs t)) }

  of_north : (x : Step) → Eastwards w e n (walked m x) → Sided x
  of_north x z = elsewhere x (inl (inl z)) (λ o. let a = z.begins in let b = z.ends in let c = o.on in omega (arith, ints, a, b, c))

  of_east : (x : Step) → Southwards e s n (walked m x) → Sided x
  of_east x z = elsewhere x (inl (inr z)) (λ o. let a = z.begins in let b = o.begins in let c = wide in omega (arith, ints, a, b, c))

  of_south : (x : Step) → Westwards w e s (walked m x) → Sided x
  of_south x z = elsewhere x (inr (inl z)) (λ o. let a = z.begins in let b = z.ends in let c = o.on in omega (arith, ints, a, b, c))

  of_west : (i j b : ℕ) → In m.subs (Part (link Down i j) b) → j ≡ r.col → r.row ≤ i → i < r.row + r.rows → Sided (part_step Down i j b false)
  of_west i j b there left north south = record {
    runs = inr (inr (on_west i j b there left north south));
    named = λ t.
        let top = comes_there i j b there left north t in
        (b, ap₂ (λ i j. part_step Down i j b false) top left, subst (λ z. In m.subs (Part z b)) (ap₂ (λ i j. link Down i j) top left) there);
  }

  -- at the end of a rectangle: a cell of it whose neighbour isn't one
  first_row : (i j : ℕ) → has_cell r (suc i) j ≡ true → has_cell r i j ≡ false → suc i ≡ r.row
  first_row i j c d = grind (arith, nat_tests, c, d)

  past_row : (i j : ℕ) → has_cell r i j ≡ true → has_cell r (suc i) j ≡ false → suc i ≡ r.row + r.rows
  past_row i j c d = grind (arith, nat_tests, c, d)

  first_col : (i j : ℕ) → has_cell r i (suc j) ≡ true → has_cell r i j ≡ false → suc j ≡ r.col
  first_col i j c d = grind (arith, nat_tests, c, d)

  past_col : (i j : ℕ) → has_cell r i j ≡ true → has_cell r i (suc j) ≡ false → suc j ≡ r.col + r.cols
  past_col i j c d = grind (arith, nat_tests, c, d)

  part_sided : (way : Way) (i j b : ℕ) (forward : Bool) → In m.subs (Part (link way i j) b) → test (part_step way i j b forward) ≡ true → Sided (part_step way i j b forward)
  part_sided Across zero j b true there t =
      let c = is_cell r 0 j (one_side _ false _ false (cell_side b 0 j true) refl t).0 in
      let a = c.north in
      of_north (part_step Across 0 j b true) (on_north 0 j b there (omega (arith, a)) c.west c.east)
  part_sided Across (suc i) j b true there t =
      let o = one_side _ _ _ _ (cell_side b (suc i) j true) (cell_side b i j false) t in
      let c = is_cell r (suc i) j o.0 in
      of_north (part_step Across (suc i) j b true) (on_north (suc i) j b there (first_row i j o.0 o.1) c.west c.east)
  part_sided Across zero j b false there t = absurd (false≢true t)
  part_sided Across (suc i) j b false there t =
      let o = one_side _ _ _ _ (cell_side b i j false) (cell_side b (suc i) j true) t in
      let c = is_cell r i j o.0 in
      of_south (part_step Across (suc i) j b false) (on_south (suc i) j b there (past_row i j o.0 o.1) c.west c.east)
  part_sided Down i zero b true there t = absurd (false≢true t)
  part_sided Down i (suc j) b true there t =
      let o = one_side _ _ _ _ (cell_side b i j false) (cell_side b i (suc j) true) t in
      let c = is_cell r i j o.0 in
      of_east (part_step Down i (suc j) b true) (on_east i (suc j) b there (past_col i j o.0 o.1) c.north c.south)
  part_sided Down i zero b false there t =
      let c = is_cell r i 0 (one_side _ false _ false (cell_side b i 0 true) refl t).0 in
      let a = c.west in
      of_west i 0 b there (omega (arith, a)) c.north c.south
  part_sided Down i (suc j) b false there t =
      let o = one_side _ _ _ _ (cell_side b i (suc j) true) (cell_side b i j false) t in
      let c = is_cell r i (suc j) o.0 in
      of_west i (suc j) b there (first_col i j o.0 o.1) c.north c.south
  part_sided Slant i j b true there t = let o = one_side _ _ _ _ (cell_side b i j false) (cell_side b i j true) t in absurd (false≢true (sym o.1 ∙ o.0))
  part_sided Slant i j b false there t = let o = one_side _ _ _ _ (cell_side b i j true) (cell_side b i j false) t in absurd (false≢true (sym o.1 ∙ o.0))

  chord_sided : (t : Tri) (c : ℕ) (forward : Bool) → test (record { sub = Chord t c; forward = forward }) ≡ true → Sided (record { sub = Chord t c; forward = forward })
  chord_sided t c forward e = absurd (not_both (eqb (block t.row t.col) k) e)

  step_sided : (x : Step) → In (boundary m set) x → Sided x
  step_sided x i =
      let o = from_filter test (steps_of m) x i in
      by x.sub x.forward (step_sub m.subs x o.0) o.1
    where
      by : (u : Sub) (forward : Bool) → In m.subs u → test (record { sub = u; forward = forward }) ≡ true → Sided (record { sub = u; forward = forward })
      by (Part z b) forward there t = part_sided z.way z.row z.col b forward there t
      by (Chord t c) forward there e = chord_sided t c forward e

  -- ---- one step comes to the corner

  abbrev corner : Link
  corner = link Down r.row r.col

  corner_here : (x : Step) (b : ℕ) → x ≡ part_step Down r.row r.col b false → Northwards w s n (walked m x) → at_corner w n (walked m x).b ≡ true → (part_ends f corner b).a ≡ point f (first corner)
  corner_here x b is o t =
      let q : (part_ends f corner b).a ≡ (walked m x).b = sym (ap (λ y. (walked m y).b) is) in
      let up : n ≤ℤ (walked m x).b.y = grind (arith, ints, t) in
      let on = o.before in
      q ∙ point_same (walked m x).b (point f (first corner)) o.ends (omega (arith, ints, up, on))

  one_comes : (x y : Step) → In (boundary m set) x → In (boundary m set) y → comes w n (walked m x) ≡ true → comes w n (walked m y) ≡ true → x ≡ y
  one_comes x y i j t u =
      let a = step_sided x i in
      let c = step_sided y j in
      let p = a.named t in
      let q = c.named u in
      let g = corner_here x p.0 p.1 (only_north w e s n wide high (walked m x) a.runs t) t in
      let o = corner_here y q.0 q.1 (only_north w e s n wide high (walked m y) c.runs u) u in
      let same : p.0 ≡ q.0 = one_begins f h corner (leg_of Down r.row r.col p.0 p.2) p.0 q.0
      (part_there f all corner p.0 p.2) (part_there f all corner q.0 q.2)
      (long (Part corner p.0) true p.2) (long (Part corner q.0) true q.2) g o in
      p.1 ∙ ap (λ b. part_step Down r.row r.col b false) same ∙ sym q.1

  -- ---- one step leaves it eastwards

  corner_cell : has_cell r r.row r.col ≡ true
  corner_cell = let a = inside.some_rows in let b = inside.some_cols in cell_has r r.row r.col (record { north = omega arith; south = omega (arith, a); west = omega arith; east = omega (arith, b) })

  leaves_test : (i j b : ℕ) → i ≡ r.row → has_cell r i j ≡ true → test (part_step Across i j b true) ≡ true
  leaves_test zero j b top c = ap (λ q. q && true) (cell_side b 0 j true ∙ c)
  leaves_test (suc i) j b top c =
      let off : has_cell r i j ≡ false = grind (arith, nat_tests, top) in
      ap₂ (λ p q. p && not q) (cell_side b (suc i) j true ∙ c) (cell_side b i j false ∙ off)

  record Leaves : Type 0 where
    band : ℕ
    there : In m.subs (Part (link Across r.row r.col) band)

  leaves : Leaves
  leaves =
      let b = some_band f (link Across r.row r.col) in
      let c = in_links all r.row r.col (is_cell all r.row r.col (in_all r.row r.col corner_cell)) in
      record { band = b.0; there = in_parts f all block (link Across r.row r.col) b.0 c b.1 }

  abbrev leaving : Step
  leaving = part_step Across r.row r.col leaves.band true

  leaving_in : In (boundary m set) leaving
  leaving_in = in_filter test (steps_of m) leaving (step_in m (Part (link Across r.row r.col) leaves.band) true leaves.there) (leaves_test r.row r.col leaves.band refl corner_cell)

  leaving_east : Eastwards w e n (walked m leaving)
  leaving_east = let a = inside.some_cols in on_north r.row r.col leaves.band leaves.there refl (omega arith) (omega (arith, a))

  -- ---- rings of the boundary

  module _ (rings : List (List Seg)) (are : AreRingsOf m set rings) where
    abbrev flat : List Seg
    flat = flat_map (λ ring. ring) rings

    outline : List Seg
    outline = map (walked m) (boundary m set)

    runs : (z : Seg) → In flat z → Runs w e s n z
    runs z i =
        let segs = map (walked m) (boundary m set) in
        let j : In segs z = is_in segs z (Contains-permutation flat segs z (IsPermutation-sym segs flat are.each_once) (contains flat z i)) in
        let x = from_map (walked m) (boundary m set) z j in
        subst (Runs w e s n) x.2 (step_sided x.0 x.1).runs

    once : total (λ z. flag (comes w n z)) flat ≤ℤ pos 1
    once =
        let segs = map (walked m) (boundary m set) in
        let a = total-IsPermutation (λ z. flag (comes w n z)) segs flat are.each_once in
        let b = total-map (λ z. flag (comes w n z)) (walked m) (boundary m set) in
        let c = at_most_one (λ x. comes w n (walked m x)) (boundary m set) (distinct_filter test (steps_of m) (distinct_steps f all block)) one_comes in
        omega (arith, ints, a, b, c)

    some : In flat (walked m leaving)
    some =
        let segs = map (walked m) (boundary m set) in
        is_in flat (walked m leaving) (Contains-permutation segs flat (walked m leaving) are.each_once (contains segs (walked m leaving) (in_map (walked m) (boundary m set) leaving leaving_in)))

    few : length rings ≤ 1
    few = one_at_most w e s n wide high rings (λ ring i. All-contains IsRing rings ring are.closed (contains rings ring i)) runs once

  positive : (a : ℤ) → pos 0 <ℤ a → int_lt (pos 0) a ≡ true
  positive a c = grind (arith, ints, c)

  one_exterior : (rings : List (List Seg)) → AreRingsOf m set rings → IsOneExterior rings
  one_exterior [] are = absurd (some [] are)
  one_exterior (ring ∷ []) are =
      let z = walked m leaving in
      let here : In ring z = ⊎_elim (λ i. i) (λ i. absurd i) (from_append ring [] z (some (ring ∷ []) are)) in
      let closed : IsRing ring = All-contains IsRing (ring ∷ []) ring are.closed (contains (ring ∷ []) ring (inl refl)) in
      let area = some_area w e s n wide high ring z closed (λ y i. runs (ring ∷ []) are y (in_first ring y i)) here leaving_east in
      record {
        one = refl;
        exterior = All-cons (λ ring. is_exterior ring ≡ true) ring [] (positive (area_sum ring) area) (All-nil (λ ring. is_exterior ring ≡ true));
      }
    where
      in_first : (ring : List Seg) (y : Seg) → In ring y → In (ring ++ []) y
      in_first [] y i = i
      in_first (x ∷ ring) y i = ⊎_elim (λ q. inl q) (λ j. inr (in_first ring y j)) i
  one_exterior (ring ∷ other ∷ rings) are = let a = few (ring ∷ other ∷ rings) are in absurd (omega (arith, a))

pub blocks_have_one_ring : ((f : Field) (block : ℕ → ℕ → ℕ) → IsField f → AreLong (whole_mesh f block)) → BlocksHaveOneRing
blocks_have_one_ring lines f count rect block h blocks k l rings are = one_exterior f h count rect block (lines f block h) blocks k l rings are
