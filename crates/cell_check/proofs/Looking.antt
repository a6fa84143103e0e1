-- What a row shows of its strip.
use Rattle.std.proofs.Common.{◌≡◌, ℕ, zero, suc, ◌+◌, ◌-◌, ◌<◌, ◌≤◌, ℤ, pos, ◌<ℤ◌, Bool, true, false, not, ◌&&◌, cond, eqb, ltb, IsTrue, List, [], ◌∷◌, ◌++◌, map, length, take, drop, get_or, replicate, Contains, refl, ap, ap₂, sym, ◌∙◌, subst, arith, ◌⊎◌, inl, inr, ⊎_elim}
use Rattle.std.specs.Prelude.{IsFalse}
use Rattle.std.specs.List.{filter}
use Rattle.std.specs.Ordering.{int_eq}
use Rattle.std.proofs.lemmas.Bool.{cases_lt}
use Rattle.std.proofs.lemmas.Int.{ints}
use Rattle.std.proofs.lemmas.List.{take-append-drop, take-map, drop-map, take_at, drop_at, drop_all, drop_more, take_more, get_or_append_left, get_or-append-add, length-append}
use Rattle.std.proofs.lemmas.List.Folds.{sum_by-replicate}
use Rattle.std.proofs.lemmas.List.Elements.{Contains-get_or}
use Rattle.std.proofs.lemmas.List.Sorted.{IsPermutation-sym, Contains-permutation}
use Rattle.plane_geom.specs.declared.Seg.{Seg}
use Rattle.plane_laws.proofs.Members.{In, contains, is_in, in_map, in_right}
use Rattle.plane_strips.specs.Gaps.{GapHasPoint, WestHasPoint}
use Rattle.plane_strips.specs.Rational.{RationalPoint, IsOnAt, odd_at}
use Rattle.plane_strips.specs.RowLaws.{PlaceInRow}
use Rattle.plane_strips.specs.Rows.{IsRow, PlaceIn}
use Rattle.plane_strips.specs.StripLaws.{CrossWhereReversed, EastGoesOn, EntersSpans, EqualOnOneLine, OnWhereLevel, OrderGoesOn}
use Rattle.plane_strips.specs.SweepLaws.{GapBack, OddOfAfter, is_odd_list}
use Rattle.plane_strips.specs.Strips.{IsStrip, IsWithin, Spans, OneLine, side, rise, AreLines}
use Rattle.plane_strips.specs.Tilings.{Wrong, is_right}
use Rattle.cell_check.specs.Gaps.{HasTurned, HasWrongGap, IsGap, IsInOrderAt, NoWrongGap}
use Rattle.cell_check.specs.Orders.{spans}
use Rattle.cell_check.specs.Outlines.{is_line}
use Rattle.chart_model.specs.Marks.{set_marks}
use Rattle.cell_check.specs.Places.{is_right_by, odds}
use Rattle.cell_check.specs.Tags.{IsSortedRow, own, seg_of, tagged}
use Rattle.cell_check.specs.Verdicts.{IsCrossed}
use Rattle.cell_check.specs.declared.line.Line.{Line}
use Rattle.cell_check.proofs.Odds.{none_odd}
use Rattle.cell_check.proofs.Parities.{in_filter, into_filter, out_map, in_parts, parity, odds_are, right_marks}
use Rattle.cell_check.proofs.Rowing.{rises, line_where_rising, spans_from, spans_to, in_order, reversed, is_row, row_pairs, not_reversed, gap_point}
use Rattle.cell_check.proofs.Tagging.{own_tagged}

pub no_line : (p q u v : ℤ) → not (int_eq p q && int_eq u v) ≡ false → u ≡ v
no_line p q u v e = grind (arith, ints)

unset : (n : ℕ) → set_marks (replicate n false) ≡ 0
unset n = sum_by-replicate (λ (b : Bool). cond b 1 0) n false ∙ omega arith

marks_none : (n m : ℕ) → is_right_by (odds 0 n []) (odds n m []) ≡ true
marks_none n m = ap₂ (λ a c. cond (ltb 0 c) (eqb a 1) (eqb a 0)) (ap set_marks (none_odd 0 n) ∙ unset n) (ap set_marks (none_odd n m) ∙ unset m)

module _ (enters : EntersSpans) (on_level : OnWhereLevel) (cross : CrossWhereReversed) (goes_on : OrderGoesOn) (east_on : EastGoesOn) (equal : EqualOnOneLine) (place : PlaceInRow) (has : GapHasPoint) (west_has : WestHasPoint) (odd : OddOfAfter) (back : GapBack)
    (areas covers : List (List Seg)) (lines : List Seg) (all : List Line) (tags : all ≡ tagged 0 (areas ++ covers)) (are : (l : Line) → In all l → IsTrue (is_line l.seg) → Contains lines l.seg) (from : (s : Seg) → Contains lines s → (l : Line) × In all l × (l.seg ≡ s))
    (lo hi : ℤ) (strip : IsStrip lines lo hi) (row : List Line) (sorted : IsSortedRow all lo hi row) where
  l : lo <ℤ hi
  l = strip.rises

  abbrev S : Line → Bool
  S x = spans lo hi x.seg

  in_row : (x : Line) → In row x → In all x × (S x ≡ true)
  in_row x i = in_filter S all x (is_in (filter S all) x (Contains-permutation row (filter S all) x (IsPermutation-sym (filter S all) row sorted.spanning) (contains row x i)))

  to_row : (x : Line) → In all x → Spans lo hi x.seg → In row x
  to_row x i h = is_in row x (Contains-permutation (filter S all) row x sorted.spanning (contains (filter S all) x (into_filter S all x i (spans_to lo hi x.seg h))))

  row_spans : (x : Line) → In row x → Spans lo hi x.seg
  row_spans x i = spans_from lo hi x.seg (in_row x i).1

  row_rises : (x : Line) → In row x → pos 0 <ℤ rise x.seg
  row_rises x i = rises lo hi x.seg l (row_spans x i)

  row_line : (x : Line) → In row x → Contains lines x.seg
  row_line x i = are x (in_row x i).0 (line_where_rising x.seg (row_rises x i))

  at_place : (k : ℕ) (d : Line) → k < length row → In row (get_or row k d)
  at_place k d h = is_in row (get_or row k d) (Contains-get_or row k d h)

  -- the segment of a line that spans the strip stands in the row
  line_row : (s : Seg) → Contains lines s → Spans lo hi s → (x : Line) × In row x × (x.seg ≡ s)
  line_row s c h = let x = from s c in (x.0, to_row x.0 x.1 (subst (Spans lo hi) (sym x.2) h), x.2)

  pub crossed_from : HasTurned hi row → IsCrossed lines lo hi
  crossed_from h =
      let d : Line = record { seg = record { a = record { x = pos 0; y = pos 0 }; b = record { x = pos 0; y = pos 0 } }; owner = 0 } in
      let s : Line = get_or row h.at d in
      let t : Line = get_or row (h.at + 1) d in
      let i : In row s = at_place h.at d (omega (arith, h.within)) in
      let j : In row t = at_place (h.at + 1) d h.within in
      record {
        one = s.seg;
        other = t.seg;
        one_there = row_line s i;
        other_there = row_line t j;
        cross = (cross lo hi s.seg t.seg l (row_spans s i) (row_spans t j)).1 (reversed lo hi s.seg t.seg (row_rises s i) (row_rises t j) (sorted.sorted h.at d (omega arith) h.within) (h.turned d));
      }

  pub row_is : IsInOrderAt hi row → IsRow lo hi (map seg_of row)
  row_is h = is_row goes_on lo hi l row row_spans (λ k d b.
      let i : In row (get_or row k d) = at_place k d (omega arith) in
      let j : In row (get_or row (k + 1) d) = at_place (k + 1) d b in
      in_order lo hi (get_or row k d).seg (get_or row (k + 1) d).seg (row_rises (get_or row k d) i) (row_rises (get_or row (k + 1) d) j) (sorted.sorted k d (omega arith) b) (h k d b))

  module _ (is : IsRow lo hi (map seg_of row)) where
    seg_in : (s : Seg) → Contains lines s → Spans lo hi s → In (map seg_of row) s
    seg_in s c h = let x = line_row s c h in subst (In (map seg_of row)) x.2 (in_map seg_of row x.0 x.1)

    pub uncrossed : IsCrossed lines lo hi → ⊥
    uncrossed x =
        let s = enters lines lo hi x.one x.cross.at strip x.one_there x.cross.first x.cross.within in
        let t = enters lines lo hi x.other x.cross.at strip x.other_there x.cross.second x.cross.within in
        not_reversed back lo hi x.one x.other (row_pairs lo hi (map seg_of row) x.one x.other is (seg_in x.one x.one_there s) (seg_in x.other x.other_there t)) ((cross lo hi x.one x.other l s t).0 x.cross)

    outline_lines : (k : ℕ) → AreLines lines (map seg_of (own k all))
    outline_lines k u c =
        let m = out_map seg_of (own k all) u (is_in (map seg_of (own k all)) u c) in
        let i = (in_filter _ all m.0 m.1).0 in
        by_test (is_line m.0.seg) m.0 m.2 i refl
      where
        by_test : (b : Bool) (x : Line) → x.seg ≡ u → In all x → is_line x.seg ≡ b → Contains lines u ⊎ (u.a.y ≡ u.b.y)
        by_test true x e i f = inl (subst (Contains lines) e (are x i f))
        by_test false x e i f = inr (subst (λ (z : Seg). z.a.y ≡ z.b.y) e (no_line x.seg.a.x x.seg.b.x x.seg.a.y x.seg.b.y f))

    -- a point in the gap west of the line at a place
    module _ (q : RationalPoint) (w : IsWithin lo hi q) (at : ℕ) (east : (x : Line) → In (take at row) x → side x.seg q <ℤ pos 0) (west : (x : Line) → In (drop at row) x → pos 0 <ℤ side x.seg q) where
      by_own : (k : ℕ) → odd_at (map seg_of (own k all)) q ≡ is_odd_list (own k (drop at row))
      by_own k = parity odd lines all lo hi strip row sorted.spanning q w (take at row) (drop at row) (sym (take-append-drop at row)) east west k (outline_lines k)

      one : (j : ℕ) → j < length (areas ++ covers) → odd_at (get_or (areas ++ covers) j []) q ≡ is_odd_list (own j (drop at row))
      one j h = ap (λ g. odd_at g q) (sym (ap (λ t. map seg_of (own j t)) tags ∙ own_tagged 0 (areas ++ covers) j j h (omega arith))) ∙ by_own j

      pub marks : is_right (λ segs. odd_at segs q) areas covers ≡ is_right_by (odds 0 (length areas) (drop at row)) (odds (length areas) (length covers) (drop at row))
      marks =
          right_marks (λ segs. odd_at segs q) areas covers
          ∙ ap₂ is_right_by
          (odds_are q areas 0 (drop at row) (λ k h.
          let same : 0 + k ≡ k = omega arith in
          ap (λ g. odd_at g q) (sym (get_or_append_left areas covers [] k h)) ∙ one k (omega (arith, length-append areas covers)) ∙ ap (λ n. is_odd_list (own n (drop at row))) (sym same)))
          (odds_are q covers (length areas) (drop at row) (λ k h.
          ap (λ g. odd_at g q) (sym (get_or-append-add areas covers k [])) ∙ one (length areas + k) (omega (arith, length-append areas covers))))

      -- a line through the point stands in no row
      pub off_lines : (s : Seg) → Contains lines s → IsOnAt s q → ⊥
      off_lines s c o =
          let h = enters lines lo hi s q strip c o w in
          let x = line_row s c h in
          let level : side s q ≡ pos 0 = (on_level lo hi s q l h w).0 o in
          ⊎_elim
          (λ i. omega (arith, ints, level, subst (λ z. side z q <ℤ pos 0) x.2 (east x.0 i)))
          (λ i. omega (arith, ints, level, subst (λ z. pos 0 <ℤ side z q) x.2 (west x.0 i)))
          (in_parts (take at row) (drop at row) x.0 (subst (λ t. In t x.0) (sym (take-append-drop at row)) x.1))

    pub wrong_from : HasWrongGap (length areas) (length covers) row → Wrong lines areas covers lo hi
    wrong_from h =
        let g = gap_point has west_has lo hi row h.at l h.within h.gap is in
        let east : (x : Line) → In (take h.at row) x → side x.seg g.at <ℤ pos 0 = λ x i. g.east x.seg (contains (map seg_of (take h.at row)) x.seg (in_map seg_of (take h.at row) x i)) in
        let west : (x : Line) → In (drop h.at row) x → pos 0 <ℤ side x.seg g.at = λ x i. g.west x.seg (contains (map seg_of (drop h.at row)) x.seg (in_map seg_of (drop h.at row) x i)) in
        record { at = g.at; within = g.within; off = off_lines g.at g.within h.at east west; wrong = marks g.at g.within h.at east west ∙ h.wrong }

    gap_here : (q : RationalPoint) → IsWithin lo hi q → (at : ℕ) → at < length row → ((x : Line) → In (take at row) x → side x.seg q <ℤ pos 0) → ((x : Line) → In (drop at row) x → pos 0 <ℤ side x.seg q) → IsGap row at
    gap_here q w zero h east west = inl refl
    gap_here q w (suc n) h east west = inr (λ d one.
        let low : n < length row = omega arith in
        let same : suc n - 1 ≡ n = omega arith in
        let more : n + 1 ≡ suc n = omega arith in
        let s : Line = get_or row n d in
        let t : Line = get_or row (suc n) d in
        let i : In row s = at_place n d low in
        let j : In row t = at_place (suc n) d h in
        let e : side s.seg q <ℤ pos 0 = east s (subst (λ z. In z s) (sym (take_more row n d low) ∙ ap (λ k. take k row) more) (in_right (take n row) (s ∷ []) s (inl refl))) in
        let f : pos 0 <ℤ side t.seg q = west t (subst (λ z. In z t) (sym (drop_more row (suc n) d h)) (inl refl)) in
        let line : OneLine s.seg t.seg = subst (λ k. OneLine (get_or row k d).seg t.seg) same one in
        let both = (equal lo hi s.seg t.seg l (row_spans s i) (row_spans t j)).1 line in
        omega (arith, ints, f, east_on lo hi t.seg s.seg q l (row_spans t j) (row_spans s i) w both.1 e))

    pub none_wrong : NoWrongGap (length areas) (length covers) row → Wrong lines areas covers lo hi → ⊥
    none_wrong h x = clash (is_right (λ segs. odd_at segs x.at) areas covers) (marks x.at x.within at east west ∙ right) x.wrong
      where
        p : PlaceIn (map seg_of row) x.at
        p = place lo hi (map seg_of row) x.at l is x.within (λ s c. let m = out_map seg_of row s (is_in (map seg_of row) s c) in x.off s (subst (Contains lines) m.2 (row_line m.0 m.1)))

        at : ℕ
        at = length p.before

        fronts : map seg_of (take at row) ≡ p.before
        fronts = sym (take-map seg_of at row) ∙ ap (take at) p.parts ∙ take_at p.before p.after at refl

        backs : map seg_of (drop at row) ≡ p.after
        backs = sym (drop-map seg_of at row) ∙ ap (drop at) p.parts ∙ drop_at p.before p.after at refl

        east : (y : Line) → In (take at row) y → side y.seg x.at <ℤ pos 0
        east y i = p.east y.seg (subst (λ t. Contains t y.seg) fronts (contains (map seg_of (take at row)) y.seg (in_map seg_of (take at row) y i)))

        west : (y : Line) → In (drop at row) y → pos 0 <ℤ side y.seg x.at
        west y i = p.west y.seg (subst (λ t. Contains t y.seg) backs (contains (map seg_of (drop at row)) y.seg (in_map seg_of (drop at row) y i)))

        right : is_right_by (odds 0 (length areas) (drop at row)) (odds (length areas) (length covers) (drop at row)) ≡ true
        right = ⊎_elim
            (λ (b : at < length row). h at b (gap_here x.at x.within at b east west))
            (λ (b : length row ≤ at). ap (λ t. is_right_by (odds 0 (length areas) t) (odds (length areas) (length covers) t)) (drop_all at row b) ∙ marks_none (length areas) (length covers))
            (cases_lt at (length row))

        clash : (b : Bool) → b ≡ true → IsFalse b → ⊥
        clash b e f = let d : true ≡ false = sym e ∙ f in absurd (cc)
