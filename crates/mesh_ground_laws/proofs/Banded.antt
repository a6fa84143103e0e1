-- Points of a band of a triangle: on the deep side of the chords up to the band's level, and on the shoal side of those above it. The outline of a piece has such points alone, and a point that is on no chord is of the class of its band.
use Rattle.std.proofs.Common.{◌≡◌, ◌⊎◌, ⊎_elim, inl, inr, ℕ, zero, suc, ◌+◌, ◌-◌, ◌<◌, ◌≤◌, min, max, ℤ, pos, ◌≤ℤ◌, ◌<ℤ◌, Bool, true, false, cond, [], ◌∷◌, map, All, refl, sym, ap, ap₂, subst, ◌∙◌, arith}
use Rattle.std.specs.Prelude.{int_lt, nat_le, count_by, is_some}
use Rattle.std.specs.List.{range_with_len}
use Rattle.std.proofs.lemmas.Bool.Decides.{nat_tests}
use Rattle.std.proofs.lemmas.Bool.{cases_lt}
use Rattle.std.proofs.lemmas.Int.{ints, by_lt_z}
use Rattle.std.proofs.lemmas.List.Elements.{All-nil, All-cons}
use Rattle.std.proofs.lemmas.List.Sums.{sum_by-cons}
use Rattle.mesh_definitions.proofs.Bands.{band_known}
use Rattle.mesh_definitions.specs.Cuts.{Slope, falls, slope, crossing}
use Rattle.mesh_definitions.specs.Field.{Field, IsField, point, band_at}
use Rattle.mesh_definitions.specs.Ground.{Gives, IsInTri, chords}
use Rattle.mesh_definitions.specs.Ground.Gives.{Deep}
use Rattle.mesh_definitions.specs.Mesh.{Walk, first, second, corners, surveyed}
use Rattle.mesh_definitions.specs.Pieces.{chord_ends, least_band, greatest_band, part_bands, part_ends, span}
use Rattle.mesh_definitions.specs.declared.Class.TheVariants.{Band}
use Rattle.mesh_definitions.specs.declared.Link.{Link}
use Rattle.mesh_definitions.specs.declared.Tri.{Tri}
use Rattle.mesh_definitions.specs.declared.Way.TheVariants.{Across, Down, Slant}
use Rattle.mesh_definitions.specs.declared.Way.{Way}
use Rattle.depth_grid.specs.declared.node.NodeId.{NodeId}
use Rattle.mesh_counts_laws.proofs.Parts.{slots_rise}
use Rattle.mesh_laws.proofs.Depths.{deepens, leads_on, leads_back}
use Rattle.mesh_laws.proofs.Once.{all_pass}
use Rattle.mesh_laws.proofs.Places.{in_range_low, in_range_high}
use Rattle.plane_geom.specs.Geom.{cross_of, IsOn}
use Rattle.plane_geom.specs.Segments.{turned}
use Rattle.plane_geom.specs.declared.Point.{Point}
use Rattle.plane_geom.specs.declared.Seg.{Seg}
use Rattle.plane_laws.specs.Outlines.{at, seg}
use Rattle.plane_laws.proofs.Chords.{side_on_first_leg, side_on_second_leg}
use Rattle.plane_laws.proofs.Cuts.{steps_along}
use Rattle.plane_laws.proofs.Lines.{side_back, side_round}
use Rattle.plane_laws.proofs.Members.{In, contains}
use Rattle.plane_laws.proofs.Pieces.{leg_from_other_end}
use Rattle.tri_mesh.specs.Fields.{upwards}
use Rattle.tri_mesh.specs.Sides.{IsParted}
use Rattle.tri_mesh.proofs.Deep.{parted}
use Rattle.tri_mesh.proofs.Depths.{deep, all_chords}
use Rattle.tri_mesh.proofs.Divisors.{compared}
use Rattle.tri_mesh.proofs.Steps.{at_none}
use Rattle.mesh_counts_laws.proofs.Slots.{IsGraded, IsOther, graded}
use Rattle.mesh_lines_laws.proofs.Segments.{NotLeft, not_left_on}
use Rattle.mesh_lines_laws.proofs.ChordCorners.{ChordOf, chord_of, corner_in, meets, on_line}
use Rattle.mesh_lines_laws.proofs.ChordCorners.ChordOf.{OneDeep, OneShoal}

-- ---- points in order along a leg

module _ (u v : Point) (place : ℕ → Point) (g : IsGraded u v place) where
  slots_in_order : (j k : ℕ) → j ≤ k → g.slot j ≤ℤ g.slot k
  slots_in_order j k l = let e : j + (k - j) ≡ k = omega (arith, l) in subst (λ n. g.slot j ≤ℤ g.slot n) e (slots_rise u v place g j (k - j))

  on_places : (a b c : Point) (r s t : ℤ) → a ≡ at u g.step r → b ≡ at u g.step t → c ≡ at u g.step s → r ≤ℤ s → s ≤ℤ t → IsOn (seg a b) c
  on_places a b c r s t ea eb ec l m =
      let on = (steps_along u g.step r t (s ∷ []) (l, m)).0 in
      subst (λ x. IsOn (seg x b) c) (sym ea) (subst (λ x. IsOn (seg (at u g.step r) x) c) (sym eb) (subst (λ x. IsOn (seg (at u g.step r) (at u g.step t)) x) (sym ec) on))

  on_whole : (j : ℕ) → IsOn (seg u v) (place j)
  on_whole j = on_places u v (place j) (pos 0) (g.slot j) g.n (sym (at_none u g.step)) (sym g.end) (g.is j) (g.low j) (g.high j)

  on_upper : (k j : ℕ) → k ≤ j → IsOn (seg (place k) v) (place j)
  on_upper k j l = on_places (place k) v (place j) (g.slot k) (g.slot j) g.n (g.is k) (sym g.end) (g.is j) (slots_in_order k j l) (g.high j)

  on_lower : (k j : ℕ) → j ≤ k → IsOn (seg u (place k)) (place j)
  on_lower k j l = on_places u (place k) (place j) (pos 0) (g.slot j) (g.slot k) (sym (at_none u g.step)) (g.is k) (g.is j) (g.low j) (slots_in_order j k l)

-- nodes of different bands aren't the same
pub other_of : (f : Field) (u v : NodeId) → band_at f u < band_at f v → IsOther u v
other_of f u v l = ⊎_elim
    (λ row. ⊎_elim
    (λ col. absurd (let e = ap (band_at f) (ap₂ (λ i j. let n : NodeId = record { row = i; col = j } in n) row col) in omega (arith, e, l)))
    inr
    (compared u.col v.col))
    inl
    (compared u.row v.row)

-- nor are the two nodes of a link
ends_other : (w : Way) (i j : ℕ) → (let l : Link = record { way = w; row = i; col = j } in IsOther (first l) (second l))
ends_other Across i j = inr (inl (omega arith))
ends_other Down i j = inl (inl (omega arith))
ends_other Slant i j = inl (inr (omega arith))

-- ---- counts over ranges

abbrev one_if : Bool → ℕ
one_if x = cond x 1 0

count_in : (test : Seg → Bool) (g : ℕ → Seg) (b a n : ℕ) → ((k : ℕ) → a ≤ k → k < a + n → test (g k) ≡ nat_le k b) → count_by test (map g (range_with_len a n)) ≡ min (b + 1 - a) n
count_in test g b a zero h = omega arith
count_in test g b a (suc n) h =
    let e : count_by test (map g (range_with_len a (suc n))) ≡ one_if (test (g a)) + count_by test (map g (range_with_len (a + 1) n)) = sum_by-cons (λ s. one_if (test s)) (g a) (map g (range_with_len (a + 1) n)) in
    let rest = count_in test g b (a + 1) n (λ k l m. h k (omega (arith, l)) (omega (arith, m))) in
    let same : one_if (test (g a)) ≡ one_if (nat_le a b) = ap one_if (h a (omega arith) (omega arith)) in
    by (nat_le a b) refl e rest same
  where
    by : (x : Bool) → nat_le a b ≡ x → count_by test (map g (range_with_len a (suc n))) ≡ one_if (test (g a)) + count_by test (map g (range_with_len (a + 1) n)) → count_by test (map g (range_with_len (a + 1) n)) ≡ min (b + 1 - (a + 1)) n
        → one_if (test (g a)) ≡ one_if (nat_le a b) → count_by test (map g (range_with_len a (suc n))) ≡ min (b + 1 - a) (suc n)
    by true k e rest same =
        let l : a ≤ b = grind (arith, nat_tests, k) in
        let c : one_if (nat_le a b) ≡ 1 = ap one_if k in
        omega (arith, l, c, e, rest, same)
    by false k e rest same =
        let l : b < a = grind (arith, nat_tests, k) in
        let c : one_if (nat_le a b) ≡ 0 = ap one_if k in
        omega (arith, l, c, e, rest, same)

all_in : (P : Seg → Type 0) (g : ℕ → Seg) (a n : ℕ) → ((k : ℕ) → a ≤ k → k < a + n → P (g k)) → All P (map g (range_with_len a n))
all_in P g a zero h = All-nil P
all_in P g a (suc n) h = All-cons P (g a) (map g (range_with_len (a + 1) n)) (h a (omega arith) (omega arith)) (all_in P g (a + 1) n (λ k l m. h k (omega (arith, l)) (omega (arith, m))))

module _ (f : Field) (h : IsField f) (t : Tri) (in_rows : t.row + 1 < f.rows) (in_cols : t.col + 1 < f.cols) where
  -- a level between the least and the greatest band
  pub record IsLevel (k : ℕ) : Type 0 where
    pub above : least_band f t < k
    pub most : k ≤ greatest_band f t

  module _ (k : ℕ) (level : IsLevel k) where
    abbrev c : Point
    c = (chord_ends f t k).a

    abbrev d : Point
    d = (chord_ends f t k).b

    sides : (n : NodeId) → In (corners t) n → IsParted f k c d n
    sides n i = parted side_back side_round side_on_first_leg side_on_second_leg leg_from_other_end f h k t.row t.col in_rows in_cols t.upper n level.above level.most (contains (corners t) n i)

    on_right : (n : NodeId) → In (corners t) n → k ≤ band_at f n → NotLeft c d (point f n)
    on_right n i l = let s = (sides n i).0 l in omega (arith, ints, s)

    on_left : (n : NodeId) → In (corners t) n → band_at f n < k → NotLeft d c (point f n)
    on_left n i l = let s = (sides n i).1 l in let e = side_back c d (point f n) in omega (arith, ints, s, e)

    chord : ChordOf f h k t
    chord = chord_of f h t k in_rows in_cols level.above level.most

    -- a leg of the triangle, from its shoaler corner to the other
    module _ (u v : NodeId) (iu : In (corners t) u) (iv : In (corners t) v) (other : IsOther u v) where
      abbrev place : ℕ → Point
      place j = crossing f (upwards u v) j

      g : IsGraded (point f u) (point f v) place
      g = graded f h u v (corner_in f h t in_rows in_cols u iu) (corner_in f h t in_rows in_cols v iv) other

      -- levels no shoaler than the chord's cross it on the chord's deep side
      deeper : (j : ℕ) → k ≤ band_at f v → k ≤ j → NotLeft c d (place j)
      deeper j l m = ⊎_elim
          (λ less.
          let e = meets f h k t chord u v iu iv less l in
          not_left_on c d (seg (place k) (point f v)) (place j) (on_upper (point f u) (point f v) place g k j m) (omega (arith, ints, e)) (on_right v iv l))
          (λ more. not_left_on c d (seg (point f u) (point f v)) (place j) (on_whole (point f u) (point f v) place g j) (on_right u iu more) (on_right v iv l))
          (cases_lt (band_at f u) k)

      -- and no deeper ones on its shoal side
      shoaler : (j : ℕ) → band_at f u < k → j ≤ k → NotLeft d c (place j)
      shoaler j l m = ⊎_elim
          (λ less. not_left_on d c (seg (point f u) (point f v)) (place j) (on_whole (point f u) (point f v) place g j) (on_left u iu l) (on_left v iv less))
          (λ more.
          let e = meets f h k t chord u v iu iv l more in
          let b = side_back c d (place k) in
          not_left_on d c (seg (point f u) (place k)) (place j) (on_lower (point f u) (point f v) place g k j m) (on_left u iu l) (omega (arith, ints, e, b)))
          (cases_lt (band_at f v) k)

  -- a point of the band b
  pub record InBand (b : ℕ) (z : Point) : Type 0 where
    pub deep : (k : ℕ) → IsLevel k → k ≤ b → NotLeft (chord_ends f t k).a (chord_ends f t k).b z
    pub shoal : (k : ℕ) → IsLevel k → b < k → NotLeft (chord_ends f t k).b (chord_ends f t k).a z

  abbrev pub EndsIn : ℕ → Seg → Type 0
  EndsIn b s = InBand b s.a × InBand b s.b

  pub turned_in : (b : ℕ) (s : Seg) → EndsIn b s → EndsIn b (turned s)
  turned_in b s e = (e.1, e.0)

  -- what lies between two points of a band is of the band
  pub between_in : (b : ℕ) (s : Seg) (z : Point) → EndsIn b s → IsOn s z → InBand b z
  between_in b s z e on = record {
    deep = λ k level l. not_left_on (chord_ends f t k).a (chord_ends f t k).b s z on (e.0.deep k level l) (e.1.deep k level l);
    shoal = λ k level l. not_left_on (chord_ends f t k).b (chord_ends f t k).a s z on (e.0.shoal k level l) (e.1.shoal k level l);
  }

  -- the crossings at the ends of a band are of the band
  crossed_in : (u v : NodeId) → In (corners t) u → In (corners t) v → IsOther u v → (b j : ℕ) → b ≤ j → j ≤ b + 1 → band_at f u ≤ b → b ≤ band_at f v → InBand b (crossing f (upwards u v) j)
  crossed_in u v iu iv other b j l m lu lv = record {
    deep = λ k level s. deeper k level u v iu iv other j (omega (arith, s, lv)) (omega (arith, s, l));
    shoal = λ k level s. shoaler k level u v iu iv other j (omega (arith, s, lu)) (omega (arith, s, m));
  }

  -- the chord of a level is of the band of its level and of the one before it
  pub chord_in : (k b : ℕ) → IsLevel k → (b ≡ k) ⊎ (b + 1 ≡ k) → EndsIn b (chord_ends f t k)
  chord_in k b level which = by (chord_of f h t k in_rows in_cols level.above level.most)
    where
      leg : (u v : NodeId) → In (corners t) u → In (corners t) v → band_at f u < k → k ≤ band_at f v → InBand b (crossing f (upwards u v) k)
      leg u v iu iv less most = ⊎_elim
          (λ e. crossed_in u v iu iv (other_of f u v (omega (arith, less, most))) b k (omega (arith, e)) (omega (arith, e)) (omega (arith, e, less)) (omega (arith, e, most)))
          (λ e. crossed_in u v iu iv (other_of f u v (omega (arith, less, most))) b k (omega (arith, e)) (omega (arith, e)) (omega (arith, e, less)) (omega (arith, e, most)))
          which

      by : ChordOf f h k t → EndsIn b (chord_ends f t k)
      by (OneDeep p q r ring dp sq sr e) = subst (EndsIn b) (sym e) (leg q p ring.corner_q ring.corner_p sq dp, leg r p ring.corner_r ring.corner_p sr dp)
      by (OneShoal p q r ring sp dq dr e) = subst (EndsIn b) (sym e) (leg p r ring.corner_p ring.corner_r sp dr, leg p q ring.corner_p ring.corner_q sp dq)

  -- the part of a leg in a band is of the band
  module _ (l : Link) (i1 : In (corners t) (first l)) (i2 : In (corners t) (second l)) (known : surveyed f t ≡ true) where
    abbrev s : Slope
    s = slope f (first l) (second l)

    abbrev w : Walk
    w = record { link = l; forward = true }

    along : (u v : NodeId) → In (corners t) u → In (corners t) v → IsOther u v → s ≡ upwards u v → (b j : ℕ) → b ≤ j → j ≤ b + 1 → band_at f u ≤ b → b ≤ band_at f v → InBand b (crossing f s j)
    along u v iu iv other e b j l m lu lv = subst (λ x. InBand b (crossing f x j)) (sym e) (crossed_in u v iu iv other b j l m lu lv)

    slope_in : (b j : ℕ) → b ≤ j → j ≤ b + 1 → min (band_at f (first l)) (band_at f (second l)) ≤ b → b ≤ max (band_at f (first l)) (band_at f (second l)) → InBand b (crossing f s j)
    slope_in b j p q low high = by (deepens f w) refl
      where
        other : IsOther (first l) (second l)
        other = ends_other l.way l.row l.col

        back : (u v : NodeId) → IsOther u v → IsOther v u
        back u v o = ⊎_elim (λ row. inl (⊎_elim inr inl row)) (λ col. inr (⊎_elim inr inl col)) o

        by : (x : Bool) → deepens f w ≡ x → InBand b (crossing f s j)
        by true e = let k = leads_on f w e in let r = k.rises in along (first l) (second l) i1 i2 other k.is b j p q (omega (arith, low, r)) (omega (arith, high, r))
        by false e = let k = leads_back f w e in let r = k.rises in along (second l) (first l) i2 i1 (back (first l) (second l) other) k.is b j p q (omega (arith, low, r)) (omega (arith, high, r))

    pub part_in : (b : ℕ) → In (part_bands f l) b → EndsIn b (part_ends f l b)
    part_in b i =
        let x = band_at f (first l) in
        let y = band_at f (second l) in
        let a = band_known f (first l) (all_pass (λ n. is_some (f.depth n)) (corners t) (first l) known i1) in
        let e = band_known f (second l) (all_pass (λ n. is_some (f.depth n)) (corners t) (second l) known i2) in
        let j : In (span (min x y) (max x y)) b = subst (λ bands. In bands b) (let g : part_bands f l ≡ span (min x y) (max x y) = rw (a, e) refl in g) i in
        let low = in_range_low (min x y) (max x y + 1 - min x y) b j in
        let high = in_range_high (min x y) (max x y + 1 - min x y) b j in
        let one = slope_in b b (omega arith) (omega arith) low (omega (arith, low, high)) in
        let two = slope_in b (b + 1) (omega arith) (omega arith) low (omega (arith, low, high)) in
        let part : part_ends f l b ≡ cond (falls f (first l) (second l)) (seg (crossing f s (b + 1)) (crossing f s b)) (seg (crossing f s b) (crossing f s (b + 1))) = rw (a, e) refl in
        subst (EndsIn b) (sym part) (by (falls f (first l) (second l)) one two)
      where
        by : (x : Bool) → InBand b (crossing f s b) → InBand b (crossing f s (b + 1)) → EndsIn b (cond x (seg (crossing f s (b + 1)) (crossing f s b)) (seg (crossing f s b) (crossing f s (b + 1))))
        by true one two = (two, one)
        by false one two = (one, two)

  -- a point of the triangle and of a band that is on no chord has the band's class
  module _ (b : ℕ) (z : Point) (band : InBand b z) (has : IsInTri f t z) (off : (k : ℕ) → IsLevel k → ¬ (IsOn (chord_ends f t k) z)) where
    deep_at : (k : ℕ) → IsLevel k → deep z (chord_ends f t k) ≡ nat_le k b
    deep_at k level = ⊎_elim shoal_side deep_side (cases_lt b k)
      where
        deep_side : k ≤ b → int_lt (cross_of (chord_ends f t k).a (chord_ends f t k).b z) (pos 0) ≡ nat_le k b
        deep_side l =
            let s = band.deep k level l in
            let n : nat_le k b ≡ true = grind (arith, nat_tests, l) in
            by_lt_z (cross_of (chord_ends f t k).a (chord_ends f t k).b z) (pos 0)
            (λ less. yes (cross_of (chord_ends f t k).a (chord_ends f t k).b z) less ∙ sym n)
            (λ more. absurd (off k level (on_line f h k t (chord_of f h t k in_rows in_cols level.above level.most) z has (omega (arith, ints, s, more)))))
          where
            yes : (x : ℤ) → x <ℤ pos 0 → int_lt x (pos 0) ≡ true
            yes x l = grind (arith, ints, l)

        shoal_side : b < k → int_lt (cross_of (chord_ends f t k).a (chord_ends f t k).b z) (pos 0) ≡ nat_le k b
        shoal_side l =
            let s = band.shoal k level l in
            let e = side_back (chord_ends f t k).a (chord_ends f t k).b z in
            let n : nat_le k b ≡ false = grind (arith, nat_tests, l) in
            no (cross_of (chord_ends f t k).a (chord_ends f t k).b z) (omega (arith, ints, s, e)) ∙ sym n
          where
            no : (x : ℤ) → pos 0 ≤ℤ x → int_lt x (pos 0) ≡ false
            no x l = grind (arith, ints, l)

    pub gives : surveyed f t ≡ true → least_band f t ≤ b → b ≤ greatest_band f t → Gives f t z (Band b)
    gives known low high =
        let a = least_band f t + 1 in
        let n = greatest_band f t + 1 - (least_band f t + 1) in
        let list : chords f t ≡ map (chord_ends f t) (range_with_len a n) = all_chords f t z known in
        let level = λ (k : ℕ) (l : a ≤ k) (m : k < a + n). let v : IsLevel k = record { above = omega (arith, l); most = omega (arith, l, m) } in v in
        let count = ap (count_by (deep z)) list ∙ count_in (deep z) (chord_ends f t) b a n (λ k l m. deep_at k (level k l m)) in
        let all = subst (All (λ s. ¬ (IsOn s z))) (sym list) (all_in (λ s. ¬ (IsOn s z)) (chord_ends f t) a n (λ k l m. off k (level k l m))) in
        let e : least_band f t + count_by (deep z) (chords f t) ≡ b = omega (arith, count, low, high) in
        subst (λ k. Gives f t z (Band k)) e (Deep known all)
