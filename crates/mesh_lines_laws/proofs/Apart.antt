-- Each sub-segment of the mesh of a field joins two different points, and no two join the same two.
use Rattle.std.proofs.Common.{◌≡◌, ◌≢◌, ◌⊎◌, ⊎_elim, inl, inr, ℕ, ◌+◌, ◌-◌, ◌<◌, ◌≤◌, Bool, true, false, cond, List, [], ◌∷◌, ◌++◌, AllPairs, refl, sym, ap, ap₂, subst, ◌∙◌, arith}
use Rattle.std.specs.Prelude.{flat_map}
use Rattle.std.specs.List.{range_with_len}
use Rattle.std.proofs.lemmas.List.Kept.{AllPairs-cons}
use Rattle.mesh_definitions.specs.Field.{Field, IsField}
use Rattle.mesh_definitions.specs.Mesh.{all_cells, links, surveyed}
use Rattle.mesh_definitions.specs.Pieces.{whole_mesh, chord_levels, span, least_band, greatest_band}
use Rattle.mesh_definitions.specs.declared.Link.{Link}
use Rattle.mesh_definitions.specs.declared.Sub.TheVariants.{Part, Chord}
use Rattle.mesh_definitions.specs.declared.Sub.{Sub}
use Rattle.mesh_definitions.specs.declared.Tri.{Tri}
use Rattle.mesh_definitions.specs.declared.Way.TheVariants.{Across, Down, Slant}
use Rattle.mesh_definitions.specs.declared.Way.{Way}
use Rattle.chart_definitions.specs.SoundEdges.{DontCoincide}
use Rattle.mesh_laws.proofs.Links.{across, down, link, one_link, places, slant}
use Rattle.mesh_laws.proofs.Once.{part_there, chord_there}
use Rattle.mesh_laws.proofs.Places.{in_range_low, in_range_high}
use Rattle.mesh_laws.proofs.Subs.{distinct_subs, link_there}
use Rattle.plane_geom.specs.Segments.{turned}
use Rattle.plane_geom.specs.declared.Seg.{Seg}
use Rattle.plane_laws.proofs.Lists.{from_append, from_flat_map, all_of}
use Rattle.plane_laws.proofs.Members.{In, Distinct}
use Rattle.mesh_lines_laws.specs.MeshLines.{FieldsKeepLines}
use Rattle.mesh_lines_laws.proofs.ChordEnds.{chord_spots}
use Rattle.mesh_lines_laws.proofs.Names.{by_nodes, by_legs}
use Rattle.mesh_lines_laws.proofs.PartEnds.{Touches, band_by, EndSpots, part_spots}
use Rattle.mesh_lines_laws.proofs.Spots.{Spot, InBoth, Holds, one_name}
use Rattle.mesh_lines_laws.proofs.Spots.Spot.{At, On}

-- ---- lists

pairs_of : {X : Type 0} (R : X → X → Type 0) (xs : List X) → Distinct xs → ((x y : X) → In xs x → In xs y → x ≢ y → R x y) → AllPairs R xs
pairs_of R [] d g = λ i j e l m. absurd (omega (arith, m))
pairs_of R (x ∷ xs) d g = AllPairs-cons R x xs
    (all_of (R x) xs (λ y i. g x y (inl refl) (inr i) (λ e. d.0 (subst (In xs) (sym e) i))))
    (pairs_of R xs d.1 (λ y z i j. g y z (inr i) (inr j)))

-- ---- links of a rectangle

record Placed (way : Way) (row rows col cols : ℕ) (l : Link) : Type 0 where
  i : ℕ
  j : ℕ
  south : i < row + rows
  east : j < col + cols
  is : link way i j ≡ l

placed : (way : Way) (row rows col cols : ℕ) (l : Link) → In (places way row rows col cols) l → Placed way row rows col cols l
placed way row rows col cols l i =
    let line = λ (x : ℕ). flat_map (one_link way x) (range_with_len col cols) in
    let a = from_flat_map line (range_with_len row rows) l i in
    let b = from_flat_map (one_link way a.0) (range_with_len col cols) l a.2 in
    record { i = a.0; j = b.0; south = in_range_high row rows a.0 a.1; east = in_range_high col cols b.0 b.1; is = ⊎_elim (λ e. e) (λ n. absurd n) b.2 }

-- ---- sub-segments by their ends

spots_apart : (l : Link) (k j : ℕ) (x y : Link) → x ≡ l → y ≡ l → k ≡ j → On x k ≡ On y j
spots_apart l k j x y e g q = ap₂ On (e ∙ sym g) q

bands_same : (b c k j : ℕ) → k ≢ j → (k ≡ b) ⊎ (k ≡ b + 1) → (j ≡ b) ⊎ (j ≡ b + 1) → (k ≡ c) ⊎ (k ≡ c + 1) → (j ≡ c) ⊎ (j ≡ c + 1) → b ≡ c
bands_same b c k j d p q r s = grind arith

-- two sub-segments that both may end at two different points are one
module _ (f : Field) where
  both_end : (u w : Sub) (y z : Spot) → y ≢ z → Touches f u y → Touches f u z → Touches f w y → Touches f w z → u ≡ w
  both_end (Part l b) (Part m c) (At n) (At o) d p q r s =
      let e = by_nodes l m n o (λ g. d (ap At g)) p.0 q.0 r.0 s.0 in
      ap₂ Part e (p.1 ∙ (ap (λ x. band_by f x n) e ∙ sym r.1))
  both_end (Part l b) (Part m c) (At n) (On o k) d p q r s =
      let e = sym q.0 ∙ s.0 in
      ap₂ Part e (p.1 ∙ (ap (λ x. band_by f x n) e ∙ sym r.1))
  both_end (Part l b) (Part m c) (On o k) (At n) d p q r s =
      let e = sym p.0 ∙ r.0 in
      ap₂ Part e (q.1 ∙ (ap (λ x. band_by f x n) e ∙ sym s.1))
  both_end (Part l b) (Part m c) (On o k) (On x j) d p q r s =
      ap₂ Part (sym p.0 ∙ r.0) (bands_same b c k j (λ e. d (spots_apart l k j o x p.0 q.0 e)) p.1 q.1 r.1 s.1)
  both_end (Part l b) (Chord t c) (At n) z d p q r s = absurd r
  both_end (Part l b) (Chord t c) (On o k) (At n) d p q r s = absurd s
  both_end (Part l b) (Chord t c) (On o k) (On x j) d p q r s = absurd (d (spots_apart l k j o x p.0 q.0 (r.0 ∙ sym s.0)))
  both_end (Chord t c) (Part l b) (At n) z d p q r s = absurd p
  both_end (Chord t c) (Part l b) (On o k) (At n) d p q r s = absurd q
  both_end (Chord t c) (Part l b) (On o k) (On x j) d p q r s = absurd (d (spots_apart l k j o x r.0 s.0 (p.0 ∙ sym q.0)))
  both_end (Chord t c) (Chord v e) (At n) z d p q r s = absurd p
  both_end (Chord t c) (Chord v e) (On o k) (At n) d p q r s = absurd q
  both_end (Chord t c) (Chord v e) (On o k) (On x j) d p q r s =
      ap₂ Chord (by_legs t v o x (λ g. d (ap₂ On g (p.0 ∙ sym q.0))) p.1 q.1 r.1 s.1) (sym p.0 ∙ r.0)

  -- the level of a chord lies above the least band of its triangle, and up to the greatest
  pub level_between : (t : Tri) (k : ℕ) → In (chord_levels f t) k → (least_band f t < k) × (k ≤ greatest_band f t)
  level_between t k i = by (surveyed f t) i
    where
      by : (s : Bool) → In (cond s (span (least_band f t + 1) (greatest_band f t)) []) k → (least_band f t < k) × (k ≤ greatest_band f t)
      by true j =
          let low = in_range_low (least_band f t + 1) (greatest_band f t + 1 - (least_band f t + 1)) k j in
          let high = in_range_high (least_band f t + 1) (greatest_band f t + 1 - (least_band f t + 1)) k j in
          (omega (arith, low), omega (arith, low, high))
      by false j = absurd j

  module _ (h : IsField f) (block : ℕ → ℕ → ℕ) where
    pub link_in : (l : Link) → In (links (all_cells f)) l → InBoth f h l
    link_in l i =
        let r = all_cells f in
        ⊎_elim
        (λ j. ⊎_elim (λ k. on_across (placed Across r.row (r.rows + 1) r.col r.cols l k)) (λ k. on_down (placed Down r.row r.rows r.col (r.cols + 1) l k)) (from_append (across r) (down r) l j))
        (λ j. on_slant (placed Slant r.row r.rows r.col r.cols l j))
        (from_append (across r ++ down r) (slant r) l i)
      where
        some_rows : 2 ≤ f.rows
        some_rows = h.some_rows

        some_cols : 2 ≤ f.cols
        some_cols = h.some_cols

        on_across : Placed Across 0 (f.rows - 1 + 1) 0 (f.cols - 1) l → InBoth f h l
        on_across p = let a = p.south in let b = p.east in subst (InBoth f h) p.is (record { row = omega (arith, a, some_rows); col = omega (arith, b) }, record { row = omega (arith, a, some_rows); col = omega (arith, b) })

        on_down : Placed Down 0 (f.rows - 1) 0 (f.cols - 1 + 1) l → InBoth f h l
        on_down p = let a = p.south in let b = p.east in subst (InBoth f h) p.is (record { row = omega (arith, a); col = omega (arith, b, some_cols) }, record { row = omega (arith, a); col = omega (arith, b, some_cols) })

        on_slant : Placed Slant 0 (f.rows - 1) 0 (f.cols - 1) l → InBoth f h l
        on_slant p = let a = p.south in let b = p.east in subst (InBoth f h) p.is (record { row = omega (arith, a); col = omega (arith, b) }, record { row = omega (arith, a); col = omega (arith, b) })

    pub sub_spots : (u : Sub) → In (whole_mesh f block).subs u → EndSpots f h u ((whole_mesh f block).ends u)
    sub_spots (Part l b) i = part_spots f h l (link_in l (link_there f (all_cells f) block l b i)) b (part_there f (all_cells f) l b i)
    sub_spots (Chord t k) i =
        let c = chord_there f (all_cells f) t k i in
        let r = level_between t k c.1 in
        let south = c.0.south in
        let east = c.0.east in
        chord_spots f h t k (record { row = omega (arith, south); col = omega (arith, east) }) r.0 r.1

    pub is_long : (u : Sub) (s : Seg) → EndSpots f h u s → s.a ≢ s.b
    is_long u s e same = e.apart (one_name f h e.a e.b s.b (subst (Holds f h e.a) same e.at_a) e.at_b)

    -- one sub-segment lies where another does, walked in either direction
    one_place : (u w : Sub) (s z : Seg) → EndSpots f h u s → EndSpots f h w z → s ≡ z → u ≡ w
    one_place u w s z p q e =
        let a = one_name f h q.a p.a z.a q.at_a (subst (λ x. Holds f h p.a x.a) e p.at_a) in
        let b = one_name f h q.b p.b z.b q.at_b (subst (λ x. Holds f h p.b x.b) e p.at_b) in
        both_end u w p.a p.b p.apart p.ends_a p.ends_b (subst (Touches f w) a q.ends_a) (subst (Touches f w) b q.ends_b)

    one_place_back : (u w : Sub) (s z : Seg) → EndSpots f h u s → EndSpots f h w z → s ≡ turned z → u ≡ w
    one_place_back u w s z p q e =
        let a = one_name f h q.b p.a z.b q.at_b (subst (λ x. Holds f h p.a x.a) e p.at_a) in
        let b = one_name f h q.a p.b z.a q.at_a (subst (λ x. Holds f h p.b x.b) e p.at_b) in
        both_end u w p.a p.b p.apart p.ends_a p.ends_b (subst (Touches f w) a q.ends_b) (subst (Touches f w) b q.ends_a)

    not_coinciding : (u w : Sub) → In (whole_mesh f block).subs u → In (whole_mesh f block).subs w → u ≢ w → DontCoincide ((whole_mesh f block).ends u) ((whole_mesh f block).ends w)
    not_coinciding u w i j d =
        let p = sub_spots u i in
        let q = sub_spots w j in
        let m = whole_mesh f block in
        (λ e. d (one_place u w (m.ends u) (m.ends w) p q e), λ e. d (one_place_back u w (m.ends u) (m.ends w) p q e))

pub fields_keep_lines : FieldsKeepLines
fields_keep_lines f block h =
    let m = whole_mesh f block in
    record {
      long = all_of (λ u. (m.ends u).a ≢ (m.ends u).b) m.subs (λ u i. is_long f h block u (m.ends u) (sub_spots f h block u i));
      apart = pairs_of (λ u w. DontCoincide (m.ends u) (m.ends w)) m.subs (distinct_subs f (all_cells f)) (not_coinciding f h block);
    }
