-- The lines of the mesh of a field lie in its coverage.
use Rattle.std.proofs.Common.{◌≡◌, ◌⊎◌, ⊎_elim, inl, inr, ℕ, ◌+◌, ◌-◌, ◌<◌, ◌≤◌, ◌<ℤ◌, neg_ℤ, Bool, true, false, cond, Option, Some, None, List, [], ◌∷◌, map, filter, Contains, refl, sym, subst, arith}
use Rattle.std.specs.Prelude.{flat_map, nat_le, nat_lt}
use Rattle.std.proofs.lemmas.Int.{ints}
use Rattle.mesh_definitions.specs.Cuts.{Slope, falls, slope, crossing, crossing_count, lattice, lattice_steps, slot_of, wanted}
use Rattle.mesh_definitions.specs.Faces.{drawn, is_drawn}
use Rattle.mesh_definitions.specs.Field.{Field, IsField, InCoverage, point, band_at, node_band}
use Rattle.mesh_definitions.specs.Mesh.{all_cells, first, second, links, surveyed, tris}
use Rattle.mesh_definitions.specs.Pieces.{whole_mesh, part_ends, part_bands, chord_ends, chord_levels, least_band, greatest_band, span}
use Rattle.mesh_definitions.specs.declared.Link.{Link}
use Rattle.mesh_definitions.specs.declared.Sub.TheVariants.{Part, Chord}
use Rattle.mesh_definitions.specs.declared.Sub.{Sub}
use Rattle.mesh_definitions.specs.declared.Tri.{Tri}
use Rattle.depth_grid.specs.declared.node.NodeId.{NodeId}
use Rattle.mesh_laws.proofs.Places.{in_range_low, in_range_high}
use Rattle.plane_geom.specs.Geom.{IsOn}
use Rattle.plane_geom.specs.declared.Point.{Point}
use Rattle.plane_geom.specs.declared.Seg.{Seg}
use Rattle.plane_laws.proofs.Lists.{from_append, from_map, from_flat_map}
use Rattle.plane_laws.specs.Outlines.{seg}
use Rattle.plane_laws.proofs.Members.{In, contains, is_in}
use Rattle.tri_mesh.proofs.Between.{inside, in_order}
use Rattle.tri_mesh.proofs.Boxes.{slot_most, along_within, chord_box}
use Rattle.tri_mesh.proofs.Listing.{of_links, of_tris}
use Rattle.tri_mesh.proofs.Signs.{InCell}
use Rattle.tri_mesh.proofs.Steps.{InField}
use Rattle.mesh_counts_laws.specs.Counts.{LinesInside}
use Rattle.mesh_counts_laws.proofs.Rounds.{IsLeg}

-- what a filter keeps was there
in_filter : {X : Type 0} (test : X → Bool) (xs : List X) (x : X) → In (filter test xs) x → In xs x
in_filter test [] x i = i
in_filter test (y ∷ xs) x i = by (test y) i (in_filter test xs x)
  where
    by : (b : Bool) → In (cond b (y ∷ filter test xs) (filter test xs)) x → (In (filter test xs) x → In xs x) → (y ≡ x) ⊎ In xs x
    by true j rest = ⊎_elim inl (λ k. inr (rest k)) j
    by false j rest = inr (rest j)

module _ (f : Field) (h : IsField f) where
  abbrev Inside : Point → Type 0
  Inside p = InCoverage f p

  rows : 1 ≤ f.rows
  rows = let k = h.some_rows in omega (arith, k)

  cols : 1 ≤ f.cols
  cols = let k = h.some_cols in omega (arith, k)

  rises_south : (i k : ℕ) → i < k → k < f.rows → neg_ℤ (f.y i) <ℤ neg_ℤ (f.y k)
  rises_south i k a b = let l = h.southwards i k a b in omega (arith, ints, l)

  node_inside : (n : NodeId) → InField f h n → Inside (point f n)
  node_inside n i =
      let r = i.row in
      let c = i.col in
      let w = in_order f.x f.cols h.eastwards 0 n.col (omega arith) c in
      let e = in_order f.x f.cols h.eastwards n.col (f.cols - 1) (omega (arith, c)) (omega (arith, cols)) in
      let s = in_order (λ i. neg_ℤ (f.y i)) f.rows rises_south n.row (f.rows - 1) (omega (arith, r)) (omega (arith, rows)) in
      let t = in_order (λ i. neg_ℤ (f.y i)) f.rows rises_south 0 n.row (omega arith) r in
      record { west = w; east = e; south = omega (arith, ints, s); north = omega (arith, ints, t) }

  on_inside : (s : Seg) (p : Point) → Inside s.a → Inside s.b → IsOn s p → Inside p
  on_inside s p a b on =
      let x = inside (f.x 0) (f.x (f.cols - 1)) s.a.x s.b.x p.x on.wide a.west a.east b.west b.east in
      let y = inside (f.y (f.rows - 1)) (f.y 0) s.a.y s.b.y p.y on.high a.south a.north b.south b.north in
      record { west = x.0; east = x.1; south = y.0; north = y.1 }

  -- ---- parts of links

  lattice_inside : (s : Slope) (t : ℕ) → t ≤ lattice_steps f s → Inside (point f s.u) → Inside (point f s.v) → Inside (lattice f s t)
  lattice_inside s t l a b =
      let x = along_within (f.x 0) (f.x (f.cols - 1)) (f.x s.u.col) (f.x s.v.col) (lattice_steps f s) t l a.west a.east b.west b.east in
      let y = along_within (f.y (f.rows - 1)) (f.y 0) (f.y s.u.row) (f.y s.v.row) (lattice_steps f s) t l a.south a.north b.south b.north in
      record { west = x.0; east = x.1; south = y.0; north = y.1 }

  crossing_inside : (s : Slope) (k : ℕ) → Inside (point f s.u) → Inside (point f s.v) → Inside (crossing f s k)
  crossing_inside s k a b = by (nat_le k (band_at f s.u)) (nat_lt (band_at f s.v) k)
    where
      by : (x y : Bool) → Inside (cond x (point f s.u) (cond y (point f s.v) (lattice f s (slot_of f s (k - band_at f s.u)))))
      by true y = a
      by false true = b
      by false false = lattice_inside s (slot_of f s (k - band_at f s.u)) (slot_most (lattice_steps f s) (crossing_count f s) (wanted f s) (k - band_at f s.u)) a b

  abbrev Ends : Seg → Type 0
  Ends s = Inside s.a × Inside s.b

  slope_inside : (a c : NodeId) → Inside (point f a) → Inside (point f c) → (k : ℕ) → Inside (crossing f (slope f a c) k)
  slope_inside a c p q k = by (falls f a c)
    where
      by : (x : Bool) → Inside (crossing f (cond {A = Slope} x (record { u = c; v = a }) (record { u = a; v = c })) k)
      by true = crossing_inside (record { u = c; v = a }) k q p
      by false = crossing_inside (record { u = a; v = c }) k p q

  module _ (l : Link) (b : ℕ) (p : Inside (point f (first l))) (q : Inside (point f (second l))) where
    part_inside : Ends (part_ends f l b)
    part_inside = by (node_band f (first l)) (node_band f (second l)) refl refl
      where
        whole : part_ends f l b ≡ seg (point f (first l)) (point f (second l)) → Ends (part_ends f l b)
        whole e = subst Ends (sym e) (p, q)

        cut : (x : Bool) → Ends (cond x (seg (crossing f (slope f (first l) (second l)) (b + 1)) (crossing f (slope f (first l) (second l)) b)) (seg (crossing f (slope f (first l) (second l)) b) (crossing f (slope f (first l) (second l)) (b + 1))))
        cut true = (slope_inside (first l) (second l) p q (b + 1), slope_inside (first l) (second l) p q b)
        cut false = (slope_inside (first l) (second l) p q b, slope_inside (first l) (second l) p q (b + 1))

        by : (x y : Option ℕ) → node_band f (first l) ≡ x → node_band f (second l) ≡ y → Ends (part_ends f l b)
        by None y e k = whole (rw e refl)
        by (Some x) None e k = whole (rw (e, k) refl)
        by (Some x) (Some y) e k =
            let s : part_ends f l b ≡ cond (falls f (first l) (second l)) (seg (crossing f (slope f (first l) (second l)) (b + 1)) (crossing f (slope f (first l) (second l)) b)) (seg (crossing f (slope f (first l) (second l)) b) (crossing f (slope f (first l) (second l)) (b + 1))) = rw (e, k) refl in
            subst Ends (sym s) (cut (falls f (first l) (second l)))

  -- a link of the mesh joins two nodes of the field
  pub link_leg : (l : Link) → Contains (links (all_cells f)) l → IsLeg f h (record { link = l; forward = true })
  link_leg = of_links f rows cols (λ l. IsLeg f h (record { link = l; forward = true }))
      (λ i j a b. record { begins = record { row = a; col = omega (arith, b) }; ends = record { row = a; col = b }; other = inr (inl (omega arith)) })
      (λ i j a b. record { begins = record { row = omega (arith, a); col = b }; ends = record { row = a; col = b }; other = inl (inl (omega arith)) })
      (λ i j a b. record { begins = record { row = a; col = omega (arith, b) }; ends = record { row = omega (arith, a); col = b }; other = inl (inr (omega arith)) })

  -- ---- chords

  cell_inside : (i j : ℕ) → i + 1 < f.rows → j + 1 < f.cols → (p : Point) → InCell f i j p → Inside p
  cell_inside i j a b p c =
      let k = node_inside (record { row = i; col = j }) (record { row = omega (arith, a); col = omega (arith, b) }) in
      let l = node_inside (record { row = i + 1; col = j + 1 }) (record { row = a; col = b }) in
      let w = k.west in
      let n = k.north in
      let e = l.east in
      let s = l.south in
      record { west = omega (arith, ints, w, c.west); east = omega (arith, ints, e, c.east); south = omega (arith, ints, s, c.south); north = omega (arith, ints, n, c.north) }

  abbrev ChordInside : Tri → Type 0
  ChordInside t = (k : ℕ) → In (chord_levels f t) k → Ends (chord_ends f t k)

  chord_inside : (i j : ℕ) (upper : Bool) → i + 1 < f.rows → j + 1 < f.cols → ChordInside (record { row = i; col = j; upper = upper })
  chord_inside i j upper a b k there = by (surveyed f t) there
    where
      t : Tri
      t = record { row = i; col = j; upper = upper }

      by : (s : Bool) → In (cond s (span (least_band f t + 1) (greatest_band f t)) []) k → Ends (chord_ends f t k)
      by true m =
          let low = in_range_low (least_band f t + 1) (greatest_band f t + 1 - (least_band f t + 1)) k m in
          let high = in_range_high (least_band f t + 1) (greatest_band f t + 1 - (least_band f t + 1)) k m in
          let box = chord_box f i j (h.eastwards j (j + 1) (omega arith) b) (h.southwards i (i + 1) (omega arith) a) upper k (omega (arith, low)) (omega (arith, low, high)) in
          (cell_inside i j a b (chord_ends f t k).a box.0, cell_inside i j a b (chord_ends f t k).b box.1)
      by false m = absurd m

  -- ---- all sub-segments

  abbrev parts : List Sub
  parts = flat_map (λ l. map (Part l) (part_bands f l)) (links (all_cells f))

  abbrev chorded : List Sub
  chorded = flat_map (λ t. map (Chord t) (chord_levels f t)) (tris (all_cells f))

  sub_inside : (block : ℕ → ℕ → ℕ) (s : Sub) → In (whole_mesh f block).subs s → Ends ((whole_mesh f block).ends s)
  sub_inside block s there = ⊎_elim
      (λ j. let x = from_flat_map (λ l. map (Part l) (part_bands f l)) (links (all_cells f)) s j in
      let y = from_map (Part x.0) (part_bands f x.0) s x.2 in
      let leg = link_leg x.0 (contains (links (all_cells f)) x.0 x.1) in
      subst (λ s. Ends ((whole_mesh f block).ends s)) y.2 (part_inside x.0 y.0 (node_inside (first x.0) leg.begins) (node_inside (second x.0) leg.ends)))
      (λ j. let x = from_flat_map (λ t. map (Chord t) (chord_levels f t)) (tris (all_cells f)) s j in
      let y = from_map (Chord x.0) (chord_levels f x.0) s x.2 in
      subst (λ s. Ends ((whole_mesh f block).ends s)) y.2 (of_tris f rows cols ChordInside chord_inside x.0 (contains (tris (all_cells f)) x.0 x.1) y.0 y.1))
      (from_append parts chorded s there)

pub lines_inside : LinesInside
lines_inside f block h p on =
    let m = whole_mesh f block in
    let x = from_map m.ends (drawn m) on.segment (is_in (map m.ends (drawn m)) on.segment on.there) in
    let e = sub_inside f h block x.0 (in_filter (is_drawn m) m.subs x.0 x.1) in
    on_inside f h (m.ends x.0) p e.0 e.1 (subst (λ s. IsOn s p) (sym x.2) on.on)
