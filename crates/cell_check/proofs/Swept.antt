-- What a sound row says of its strip.
use Rattle.std.proofs.Common.{◌≡◌, ℕ, zero, suc, ◌+◌, ◌-◌, ◌<◌, ℤ, pos, ◌≤ℤ◌, ◌<ℤ◌, int_le, int_lt, Bool, true, false, not, cond, ◌&&◌, ◌||◌, List, [], ◌∷◌, ◌++◌, map, length, take, drop, get_or, refl, ap, ap₂, sym, ◌∙◌, subst, arith, ⊎_elim, take-append-drop, ◌⊎◌, inl, inr}
use Rattle.std.specs.Prelude.{Some, None, IsTrue, Contains}
use Rattle.std.specs.List.{filter, slice_get}
use Rattle.std.specs.List.Sorted.{IsPermutation}
use Rattle.std.specs.Ordering.{int_eq}
use Rattle.std.proofs.lemmas.Int.{ints}
use Rattle.std.proofs.lemmas.List.{append-nil, drop-map, drop_more, length-map}
use Rattle.std.proofs.lemmas.List.Elements.{filter-append, Contains-get_or}
use Rattle.std.proofs.lemmas.List.Sorted.{Contains-permutation, IsPermutation-sym, IsPermutation-trans}
use Rattle.std.proofs.lemmas.Option.{slice_get-get_or}
use Rattle.plane_geom.specs.Segments.{turned}
use Rattle.plane_geom.specs.declared.Seg.{Seg}
use Rattle.plane_strips.specs.SweepLaws.{is_odd_list}
use Rattle.plane_strips.specs.Strips.{IsHeight, NotEast, OneLine, Spans, upward, rise, gap}
use Rattle.cell_check.specs.Gaps.{IsGap, IsInOrderAt, NoWrongGap}
use Rattle.cell_check.specs.Joints.{line_of, AreJoined, IsJoint, IsRight}
use Rattle.cell_check.specs.Orders.{is_west, spans}
use Rattle.cell_check.specs.Owners.{holds}
use Rattle.cell_check.specs.Sweeps.{begin_of, does_rise, goes_above, HaveNotBegun, IsSwept}
use Rattle.cell_check.specs.Tags.{own, IsSortedRow}
use Rattle.cell_check.specs.declared.entry.Entry.{Entry}
use Rattle.cell_check.specs.declared.holders.Counts.{Counts}
use Rattle.cell_check.specs.declared.line.Line.{Line}
use Rattle.cell_check.specs.declared.sweep.Sweep.{Sweep}
use Rattle.cell_check.specs.declared.owners.Owners.TheVariants.{Nobody}
use Rattle.cell_check.specs.Outlines.{is_line}
use Rattle.plane_laws.proofs.Members.{In, contains, is_in, in_left}
use Rattle.cell_check.proofs.Endings.{all_go_on}
use Rattle.cell_check.proofs.Parities.{in_filter, into_filter}
use Rattle.cell_check.proofs.Filtering.{all_pass, none_pass, permuted, twice}
use Rattle.cell_check.proofs.Holding.{held, linked_drop, linked_from, right_by_holders, west_of}
use Rattle.cell_check.proofs.Rowing.{rises, spans_from, spans_to, east_gap}

-- ---- lines that span a strip

not_both : (p q : ℤ) → int_lt p q ≡ true → q ≤ℤ p → ⊥
not_both p q e m = grind (arith, ints)

spans_numbers : (a lo hi b : ℤ) → (int_le a lo && int_le hi b) ≡ true → lo <ℤ hi → (int_lt lo b ≡ true) × (a <ℤ b)
spans_numbers a lo hi b e l = (grind (arith, ints), grind (arith, ints))

not_spans : (a lo hi b : ℤ) → lo <ℤ a → (int_le a lo && int_le hi b) ≡ false
not_spans a lo hi b l = grind (arith, ints)

numbers_differ : (a b : ℤ) → (a ≡ b → ⊥) → not (int_eq a b) ≡ true
numbers_differ a b h = grind (arith, ints)

rises_not_level : (s : Seg) → (upward s).a.y <ℤ (upward s).b.y → s.a.y ≡ s.b.y → ⊥
rises_not_level s l e = by_test (int_le s.a.y s.b.y) l
  where
    by_test : (b : Bool) → (cond b s (turned s)).a.y <ℤ (cond b s (turned s)).b.y → ⊥
    by_test true k = omega (arith, ints)
    by_test false k = omega (arith, ints)

abbrev pub lines_of : Sweep → List Line
lines_of w = map line_of w.row.items

module _ (lo hi : ℤ) (l : lo <ℤ hi) where
  abbrev S : Line → Bool
  S x = spans lo hi x.seg

  spans_goes : (x : Line) → S x ≡ true → goes_above lo x ≡ true
  spans_goes x e = (spans_numbers (upward x.seg).a.y lo hi (upward x.seg).b.y e l).0

  spans_rises : (x : Line) → S x ≡ true → does_rise x ≡ true
  spans_rises x e = numbers_differ x.seg.a.y x.seg.b.y (rises_not_level x.seg (spans_numbers (upward x.seg).a.y lo hi (upward x.seg).b.y e l).1)

  rest_out : (ls : List Line) → HaveNotBegun lo ls → filter S ls ≡ []
  rest_out ls h = none_pass S ls (λ k d m. not_spans (begin_of (get_or ls k d)) lo hi (upward (get_or ls k d).seg).b.y (h k d m))

  line_at : (row : List Entry) (k : ℕ) (d : Line) (e : Entry) → k < length row → get_or (map line_of row) k d ≡ (get_or row k e).line
  line_at [] k d e h = absurd (omega arith)
  line_at (x ∷ row) zero d e h = refl
  line_at (x ∷ row) (suc k) d e h = line_at row k d e (omega arith)

  module _ (lines : List Seg) (empty : (y : ℤ) → IsHeight lines y → (y ≤ℤ lo) ⊎ (hi ≤ℤ y)) (all rising : List Line) (are : (x : Line) → In all x → IsTrue (is_line x.seg) → Contains lines x.seg) (from_all : IsPermutation (filter does_rise all) rising) (c : Counts) (w : Sweep) (is : IsSwept c rising lo w) where
    abbrev R : List Line
    R = map line_of w.row.items

    front : filter S rising ≡ filter S (take w.begun rising)
    front =
        ap (filter S) (sym (take-append-drop w.begun rising))
        ∙ filter-append S (take w.begun rising) (drop w.begun rising)
        ∙ ap (λ t. filter S (take w.begun rising) ++ t) (rest_out (drop w.begun rising) is.rest)
        ∙ append-nil (filter S (take w.begun rising))

    goes : (k : ℕ) (d : Line) → k < length R → goes_above lo (get_or R k d) ≡ true
    goes = all_go_on rising R w.begun w.ended lo is.sweep.within is.sweep.same is.ended (omega (arith, is.few, length-map w.row.items line_of))

    -- a line of the row is one that has begun
    has_begun : (x : Line) → In R x → goes_above lo x ≡ true → In (take w.begun rising) x
    has_begun x i e = (in_filter (goes_above lo) (take w.begun rising) x (is_in (filter (goes_above lo) (take w.begun rising)) x (Contains-permutation (filter (goes_above lo) R) (filter (goes_above lo) (take w.begun rising)) x (IsPermutation-sym (filter (goes_above lo) (take w.begun rising)) (filter (goes_above lo) R) is.sweep.same) (contains (filter (goes_above lo) R) x (into_filter (goes_above lo) R x i e))))).0

    is_of_all : (x : Line) → In rising x → In all x × (does_rise x ≡ true)
    is_of_all x i = in_filter does_rise all x (is_in (filter does_rise all) x (Contains-permutation rising (filter does_rise all) x (IsPermutation-sym (filter does_rise all) rising from_all) (contains rising x i)))

    begins : (x : Line) → In (take w.begun rising) x → begin_of x ≤ℤ lo
    begins x i = let a = contains (take w.begun rising) x i in subst (λ (y : Line). begin_of y ≤ℤ lo) a.2 (is.first a.0 x a.1)

    level_apart : (x : Line) → does_rise x ≡ true → is_line x.seg ≡ true
    level_apart x e = by_numbers x.seg.a.x x.seg.b.x x.seg.a.y x.seg.b.y e
      where
        by_numbers : (p q u v : ℤ) → not (int_eq u v) ≡ true → not (int_eq p q && int_eq u v) ≡ true
        by_numbers p q u v e = grind (arith, ints)

    row_spans : (k : ℕ) (d : Line) → k < length R → S (get_or R k d) ≡ true
    row_spans k d h =
        let x : Line = get_or R k d in
        let e : goes_above lo x ≡ true = goes k d h in
        let i = has_begun x (is_in R x (Contains-get_or R k d h)) e in
        let j = is_of_all x (subst (λ t. In t x) (take-append-drop w.begun rising) (in_left (take w.begun rising) (drop w.begun rising) x i)) in
        let there : Contains lines x.seg = are x j.0 (level_apart x j.1) in
        spans_to lo hi x.seg (record { below = begins x i; above = over (upward x.seg).b.y (upper x.seg there) e })
      where
        over : (y : ℤ) → IsHeight lines y → int_lt lo y ≡ true → hi ≤ℤ y
        over y h e = ⊎_elim (λ (m : y ≤ℤ lo). absurd (not_both lo y e m)) (λ m. m) (empty y h)

        upper : (s : Seg) → Contains lines s → IsHeight lines (upward s).b.y
        upper s c = by_test (int_le s.a.y s.b.y)
          where
            by_test : (b : Bool) → IsHeight lines (cond b s (turned s)).b.y
            by_test true = record { line = s; there = c; end = inr refl }
            by_test false = record { line = s; there = c; end = inl refl }

    pub spanning : IsPermutation (filter S all) R
    spanning =
        subst (λ t. IsPermutation t R) (twice does_rise S spans_rises all)
        (IsPermutation-trans (filter S (filter does_rise all)) (filter S rising) R (permuted S (filter does_rise all) rising from_all)
        (subst (λ t. IsPermutation t R) (twice (goes_above lo) S spans_goes (take w.begun rising) ∙ sym front)
        (subst (IsPermutation (filter S (filter (goes_above lo) (take w.begun rising)))) (twice (goes_above lo) S spans_goes R ∙ all_pass S R row_spans)
        (permuted S (filter (goes_above lo) (take w.begun rising)) (filter (goes_above lo) R) is.sweep.same))))

    joint : (k : ℕ) (d e : Entry) → k + 1 < length w.row.items → AreJoined c (get_or w.row.items k d) (get_or w.row.items (k + 1) e)
    joint k d e h =
        let j : IsJoint c (slice_get w.row.items k) (slice_get w.row.items (suc k)) = is.sweep.sound (suc k) (omega arith) in
        let next : suc k ≡ k + 1 = omega arith in
        let a : slice_get w.row.items k ≡ Some (get_or w.row.items k d) = slice_get-get_or w.row.items k d (omega arith) in
        let b : slice_get w.row.items (suc k) ≡ Some (get_or w.row.items (k + 1) e) = ap (slice_get w.row.items) next ∙ slice_get-get_or w.row.items (k + 1) e h in
        subst (λ t. IsJoint c (Some (get_or w.row.items k d)) t) b (subst (λ t. IsJoint c t (slice_get w.row.items (suc k))) a j)

    of_line : Line → Entry
    of_line d = record { line = d; west = record { areas = Nobody; covers = Nobody } }

    side_by_side : (k : ℕ) (d : Line) → k + 1 < length R → NotEast lo hi (get_or R k d).seg (get_or R (k + 1) d).seg × (pos 0 <ℤ rise (get_or R k d).seg) × (pos 0 <ℤ rise (get_or R (k + 1) d).seg)
    side_by_side k d h =
        let m : k + 1 < length w.row.items = omega (arith, length-map w.row.items line_of) in
        let j = joint k (of_line d) (of_line d) m in
        let first : Spans lo hi (get_or R k d).seg = spans_from lo hi (get_or R k d).seg (row_spans k d (omega arith)) in
        let second : Spans lo hi (get_or R (k + 1) d).seg = spans_from lo hi (get_or R (k + 1) d).seg (row_spans (k + 1) d h) in
        let a = line_at w.row.items k d (of_line d) (omega arith) in
        let b = line_at w.row.items (k + 1) d (of_line d) m in (
          subst (λ (x : Line). NotEast lo hi x.seg (get_or R (k + 1) d).seg) (sym a) (subst (λ (x : Line). NotEast lo hi (get_or w.row.items k (of_line d)).line.seg x.seg) (sym b) (j.ahead lo hi l (subst (λ (x : Line). Spans lo hi x.seg) a first) (subst (λ (x : Line). Spans lo hi x.seg) b second))),
          rises lo hi (get_or R k d).seg l first,
          rises lo hi (get_or R (k + 1) d).seg l second,
        )

    not_west : (y : ℤ) (s t : Seg) → pos 0 <ℤ rise s → pos 0 <ℤ rise t → pos 0 ≤ℤ gap s t y → is_west y t s ≡ false
    not_west y s t s0 t0 g = by_test (is_west y t s) refl
      where
        by_test : (b : Bool) → is_west y t s ≡ b → is_west y t s ≡ false
        by_test false e = e
        by_test true e = let f = east_gap y s t s0 t0 e in absurd (omega (arith, ints, f, g))

    or_false : (a b x : Bool) → a ≡ false → b ≡ false → (a || (x && b)) ≡ false
    or_false a b true e f = ap₂ (λ p q. p || (true && q)) e f
    or_false a b false e f = ap₂ (λ p q. p || (false && q)) e f

    pub sorted_row : IsSortedRow all lo hi R
    sorted_row = record {
      spanning = spanning;
      sorted = λ k d a h.
          let s = side_by_side k d h in
          or_false (is_west lo (get_or R (k + 1) d).seg (get_or R k d).seg) (is_west hi (get_or R (k + 1) d).seg (get_or R k d).seg) (not (is_west lo (get_or R k d).seg (get_or R (k + 1) d).seg))
          (not_west lo (get_or R k d).seg (get_or R (k + 1) d).seg s.1 s.2 s.0.low)
          (not_west hi (get_or R k d).seg (get_or R (k + 1) d).seg s.1 s.2 s.0.high);
    }

    pub in_order : IsInOrderAt hi R
    in_order k d h = let s = side_by_side k d h in not_west hi (get_or R k d).seg (get_or R (k + 1) d).seg s.1 s.2 s.0.high

    right_at : (at : ℕ) (e : Entry) → at < length w.row.items → IsGap R at → IsRight c (get_or w.row.items at e).west
    right_at zero e h g =
        let j : IsJoint c None (slice_get w.row.items 0) = is.sweep.sound 0 (omega arith) in
        subst (IsJoint c None) (slice_get-get_or w.row.items 0 e h) j
    right_at (suc k) e h g =
        let next : k + 1 ≡ suc k = omega arith in
        let back : suc k - 1 ≡ k = omega arith in
        let j = joint k e e (omega arith) in
        let there : IsRight c (get_or w.row.items (k + 1) e).west = ⊎_elim
        (λ (o : OneLine (get_or w.row.items k e).line.seg (get_or w.row.items (k + 1) e).line.seg). absurd (⊎_elim
        (λ (n : suc k ≡ 0). omega arith)
        (λ n. n e.line
        (subst (λ m. OneLine (get_or R m e.line).seg (get_or R (suc k) e.line).seg) (sym back)
        (subst (λ (x : Line). OneLine x.seg (get_or R (suc k) e.line).seg) (sym (line_at w.row.items k e.line e (omega arith)))
        (subst (λ (x : Line). OneLine (get_or w.row.items k e).line.seg x.seg) (sym (line_at w.row.items (suc k) e.line e h))
        (subst (λ m. OneLine (get_or w.row.items k e).line.seg (get_or w.row.items m e).line.seg) next o)))))
        g))
        (λ r. r)
        j.right in
        subst (λ m. IsRight c (get_or w.row.items m e).west) next there

    pub none_wrong : NoWrongGap c.areas c.covers R
    none_wrong at h g =
        let m : at < length w.row.items = omega (arith, length-map w.row.items line_of) in
        let e : Entry = of_line (record { seg = record { a = record { x = pos 0; y = pos 0 }; b = record { x = pos 0; y = pos 0 } }; owner = 0 }) in
        let r : IsRight c (get_or w.row.items at e).west = right_at at e m g in
        let there : west_of (drop at w.row.items) ≡ (get_or w.row.items at e).west = ap west_of (drop_more w.row.items at e m) in
        right_by_holders (drop at R) c (get_or w.row.items at e).west.areas (get_or w.row.items at e).west.covers
        (λ o. ap (λ t. holds c.areas t o) (sym there) ∙ held c (drop at w.row.items) (linked_drop c at w.row.items (linked_from c w.row.items is.sweep.sound)) o ∙ ap (λ t. is_odd_list (own o t)) (sym (drop-map line_of at w.row.items)))
        r
