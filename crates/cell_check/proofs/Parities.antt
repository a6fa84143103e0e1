-- The parities of a point between the lines of a row, by the lines east of it.
use Rattle.std.proofs.Common.{◌≡◌, ℕ, suc, ◌+◌, ◌<◌, ℤ, pos, ◌<ℤ◌, int_lt, Bool, true, false, not, cond, eqb, ltb, ◌||◌, List, [], ◌∷◌, ◌++◌, map, length, get_or, refl, ap, ap₂, sym, ◌∙◌, subst, zero-add, arith, ◌⊎◌, inl, inr, ⊎_elim}
use Rattle.std.specs.List.{filter, list_any, sum_by, count_by}
use Rattle.std.specs.List.Sorted.{IsPermutation}
use Rattle.std.proofs.lemmas.Int.{ints}
use Rattle.std.proofs.lemmas.Bool.Decides.{nat_tests}
use Rattle.std.proofs.lemmas.List.{map-append, length-map}
use Rattle.std.proofs.lemmas.List.Sums.{length-filter, sum_by-cons, sum_by-append}
use Rattle.std.proofs.lemmas.List.Sorted.{IsPermutation-filter_both, IsPermutation-append_right, IsPermutation-trans, IsPermutation-map, Contains-permutation, sum_by-IsPermutation}
use Rattle.plane_geom.specs.declared.Seg.{Seg}
use Rattle.plane_laws.proofs.Members.{In, contains, is_in}
use Rattle.plane_strips.specs.Rational.{RationalPoint, odd_at}
use Rattle.plane_strips.specs.Strips.{IsStrip, IsWithin, Spans, side, AreLines}
use Rattle.plane_strips.specs.SweepLaws.{OddOfAfter, IsSplit, is_odd_list}
use Rattle.plane_strips.specs.Tilings.{is_right}
use Rattle.cell_check.specs.Orders.{spans}
use Rattle.chart_model.specs.Marks.{set_marks}
use Rattle.cell_check.specs.Places.{is_right_by, odds}
use Rattle.cell_check.specs.Tags.{own, seg_of}
use Rattle.cell_check.specs.declared.line.Line.{Line}
use Rattle.cell_check.proofs.Rowing.{spans_from, spans_to}

-- ---- lists

pub in_filter : {X : Type 0} (p : X → Bool) (xs : List X) (x : X) → In (filter p xs) x → In xs x × (p x ≡ true)
in_filter p [] x i = absurd i
in_filter p (y ∷ xs) x i = by_test (in_filter p xs x) (p y) refl i
  where
    by_test : (In (filter p xs) x → In xs x × (p x ≡ true)) → (b : Bool) → p y ≡ b → In (cond b (y ∷ filter p xs) (filter p xs)) x → In (y ∷ xs) x × (p x ≡ true)
    by_test h true e j = ⊎_elim (λ (f : y ≡ x). (inl f, subst (λ z. p z ≡ true) f e)) (λ k. let r = h k in (inr r.0, r.1)) j
    by_test h false e j = let r = h j in (inr r.0, r.1)

pub into_filter : {X : Type 0} (p : X → Bool) (xs : List X) (x : X) → In xs x → p x ≡ true → In (filter p xs) x
into_filter p [] x i e = absurd i
into_filter p (y ∷ xs) x i e = by_test (λ j. into_filter p xs x j e) (p y) refl i
  where
    by_test : (In xs x → In (filter p xs) x) → (b : Bool) → p y ≡ b → In (y ∷ xs) x → In (cond b (y ∷ filter p xs) (filter p xs)) x
    by_test h true f j = ⊎_elim (λ g. inl g) (λ k. inr (h k)) j
    by_test h false f j = ⊎_elim (λ (g : y ≡ x). absurd (let d : false ≡ true = sym f ∙ ap p g ∙ e in cc)) (λ k. h k) j

pub out_map : {X Y : Type 0} (f : X → Y) (xs : List X) (y : Y) → In (map f xs) y → (x : X) × In xs x × (f x ≡ y)
out_map f [] y i = absurd i
out_map f (x ∷ xs) y i = ⊎_elim (λ e. (x, inl refl, e)) (λ j. let r = out_map f xs y j in (r.0, inr r.1, r.2)) i

pub in_parts : {X : Type 0} (xs ys : List X) (x : X) → In (xs ++ ys) x → In xs x ⊎ In ys x
in_parts [] ys x i = inr i
in_parts (z ∷ xs) ys x i = ⊎_elim (λ e. inl (inl e)) (λ j. ⊎_elim (λ k. inl (inr k)) (λ k. inr k) (in_parts xs ys x j)) i

length_odd : {X Y : Type 0} (xs : List X) (ys : List Y) → length xs ≡ length ys → is_odd_list xs ≡ is_odd_list ys
length_odd [] [] e = refl
length_odd [] (y ∷ ys) e = absurd (omega arith)
length_odd (x ∷ xs) [] e = absurd (omega arith)
length_odd (x ∷ xs) (y ∷ ys) e = ap not (length_odd xs ys (omega arith))

-- ---- sums

module _ {X : Type 0} where
  sum_filter : (f : X → ℕ) (p : X → Bool) (xs : List X) → sum_by f (filter p xs) ≡ sum_by (λ x. cond (p x) (f x) 0) xs
  sum_filter f p [] = refl
  sum_filter f p (x ∷ xs) = by_test (p x) (sum_filter f p xs) ∙ sym (sum_by-cons (λ x. cond (p x) (f x) 0) x xs)
    where
      by_test : (b : Bool) → sum_by f (filter p xs) ≡ sum_by (λ x. cond (p x) (f x) 0) xs → sum_by f (cond b (x ∷ filter p xs) (filter p xs)) ≡ cond b (f x) 0 + sum_by (λ x. cond (p x) (f x) 0) xs
      by_test true h = sum_by-cons f x (filter p xs) ∙ ap (λ n. f x + n) h
      by_test false h = h ∙ sym (zero-add (sum_by (λ x. cond (p x) (f x) 0) xs))

  sum_agree : (f g : X → ℕ) (xs : List X) → ((x : X) → In xs x → f x ≡ g x) → sum_by f xs ≡ sum_by g xs
  sum_agree f g [] h = refl
  sum_agree f g (x ∷ xs) h = sum_by-cons f x xs ∙ ap₂ (λ m n. m + n) (h x (inl refl)) (sum_agree f g xs (λ y i. h y (inr i))) ∙ sym (sum_by-cons g x xs)

  sum_none : (f : X → ℕ) (xs : List X) → ((x : X) → In xs x → f x ≡ 0) → sum_by f xs ≡ 0
  sum_none f [] h = refl
  sum_none f (x ∷ xs) h = let a = h x (inl refl) in let b = sum_none f xs (λ y i. h y (inr i)) in let e = sum_by-cons f x xs in omega arith

  -- those that pass K, S and W; xs holds those that pass S, in another order, and W passes just those of the second part
  counted : (K S W : X → Bool) (all before after : List X) → IsPermutation (filter S all) (before ++ after) → ((x : X) → In before x → W x ≡ false) → ((x : X) → In after x → W x ≡ true) → length (filter W (filter S (filter K all))) ≡ length (filter K after)
  counted K S W all before after perm out in' =
      length-filter W (filter S (filter K all))
      ∙ sum_filter (λ x. cond (W x) 1 0) S (filter K all)
      ∙ sum_filter (λ x. cond (S x) (cond (W x) 1 0) 0) K all
      ∙ sum_agree (λ x. cond (K x) (cond (S x) (cond (W x) 1 0) 0) 0) (λ x. cond (S x) (h x) 0) all (λ x i. swapped (K x) (S x) (cond (W x) 1 0))
      ∙ sym (sum_filter h S all)
      ∙ sym (sum_by-IsPermutation h (filter S all) (before ++ after) perm)
      ∙ sum_by-append h before after
      ∙ ap₂ (λ m n. m + n) (sum_none h before (λ x i. dropped x i)) (sum_agree h (λ x. cond (K x) 1 0) after (λ x i. kept x i))
      ∙ zero-add (count_by K after)
      ∙ sym (length-filter K after)
    where
      h : X → ℕ
      h x = cond (K x) (cond (W x) 1 0) 0

      nothing : (k : Bool) → cond {A = ℕ} k 0 0 ≡ 0
      nothing true = refl
      nothing false = refl

      dropped : (x : X) → In before x → h x ≡ 0
      dropped x i = ap (λ (b : Bool). cond {A = ℕ} (K x) (cond {A = ℕ} b 1 0) 0) (out x i) ∙ nothing (K x)

      kept : (x : X) → In after x → h x ≡ cond (K x) 1 0
      kept x i = ap (λ (b : Bool). cond {A = ℕ} (K x) (cond {A = ℕ} b 1 0) 0) (in' x i)

      swapped : (k s : Bool) (n : ℕ) → cond k (cond s n 0) 0 ≡ cond s (cond k n 0) 0
      swapped true true n = refl
      swapped true false n = refl
      swapped false true n = refl
      swapped false false n = refl

-- ---- a point between lines

twice_not : (b : Bool) → b ≡ not (not b)
twice_not true = refl
twice_not false = refl

west_test : (z : ℤ) → pos 0 <ℤ z → int_lt (pos 0) z ≡ true
west_test z l = grind (arith, ints)

east_test : (z : ℤ) → z <ℤ pos 0 → int_lt (pos 0) z ≡ false
east_test z l = grind (arith, ints)

test_west : (z : ℤ) → int_lt (pos 0) z ≡ true → pos 0 <ℤ z
test_west z e = grind (arith, ints)

not_both : (b : Bool) → not b ≡ true → b ≡ true → ⊥
not_both b e f = let d : false ≡ true = sym (ap not f) ∙ e in absurd (cc)

module _ (law : OddOfAfter) (lines : List Seg) (all : List Line) (lo hi : ℤ) (strip : IsStrip lines lo hi) (row : List Line) (perm : IsPermutation (filter (λ (l : Line). spans lo hi l.seg) all) row)
    (q : RationalPoint) (w : IsWithin lo hi q) (before after : List Line) (parts : row ≡ before ++ after) (east : (l : Line) → In before l → side l.seg q <ℤ pos 0) (west : (l : Line) → In after l → pos 0 <ℤ side l.seg q) where
  abbrev S : Line → Bool
  S l = spans lo hi l.seg

  abbrev W : Line → Bool
  W l = int_lt (pos 0) (side l.seg q)

  split_perm : IsPermutation (filter S all) (before ++ after)
  split_perm = subst (IsPermutation (filter S all)) parts perm

  -- a line that spans the strip, and that the point isn't west of
  is_east : (l : Line) → In all l → S l ≡ true → not (W l) ≡ true → side l.seg q <ℤ pos 0
  is_east l i s n = ⊎_elim (λ j. east l j) (λ j. absurd (not_both (W l) n (west_test (side l.seg q) (west l j))))
      (in_parts before after l (is_in (before ++ after) l (Contains-permutation (filter S all) (before ++ after) l split_perm (contains (filter S all) l (into_filter S all l i s)))))

  module _ (k : ℕ) where
    abbrev K : List Line
    K = own k all

    abbrev O : List Line
    O = filter (λ l. not (S l)) K

    abbrev B : List Line
    B = filter (λ l. not (W l)) (filter S K)

    abbrev A : List Line
    A = filter W (filter S K)

    sorted_out : IsPermutation K (O ++ (B ++ A))
    sorted_out = IsPermutation-trans K (O ++ filter S K) (O ++ (B ++ A))
        (IsPermutation-filter_both (λ l. not (S l)) S (λ l. twice_not (S l)) K)
        (IsPermutation-append_right O (filter S K) (B ++ A) (IsPermutation-filter_both (λ l. not (W l)) W (λ l. twice_not (W l)) (filter S K)))

    in_all : (l : Line) → In K l → In all l
    in_all l i = (in_filter (λ (x : Line). eqb x.owner k) all l i).0

    split : IsSplit lo hi (map seg_of K) (map seg_of O) (map seg_of B) (map seg_of A) q
    split = record {
      all = subst (IsPermutation (map seg_of K)) (map-append seg_of O (B ++ A) ∙ ap (λ t. map seg_of O ++ t) (map-append seg_of B A)) (IsPermutation-map seg_of K (O ++ (B ++ A)) sorted_out);
      low = λ s c h.
          let m = out_map seg_of O s (is_in (map seg_of O) s c) in
          let f = in_filter (λ l. not (S l)) K m.0 m.1 in
          not_both (S m.0) f.1 (spans_to lo hi m.0.seg (subst (Spans lo hi) (sym m.2) h));
      spanned = λ s c.
          let m = out_map seg_of A s (is_in (map seg_of A) s c) in
          let f = in_filter W (filter S K) m.0 m.1 in
          let g = in_filter S K m.0 f.0 in
          subst (Spans lo hi) m.2 (spans_from lo hi m.0.seg g.1);
      east = λ s c.
          let m = out_map seg_of B s (is_in (map seg_of B) s c) in
          let f = in_filter (λ l. not (W l)) (filter S K) m.0 m.1 in
          let g = in_filter S K m.0 f.0 in
          subst (λ z. side z q <ℤ pos 0) m.2 (is_east m.0 (in_all m.0 g.0) g.1 f.1);
      west = λ s c.
          let m = out_map seg_of A s (is_in (map seg_of A) s c) in
          let f = in_filter W (filter S K) m.0 m.1 in
          subst (λ z. pos 0 <ℤ side z q) m.2 (test_west (side m.0.seg q) f.1);
    }

    pub parity : AreLines lines (map seg_of K) → odd_at (map seg_of K) q ≡ is_odd_list (own k after)
    parity are =
        law lines (map seg_of K) (map seg_of O) (map seg_of B) (map seg_of A) lo hi q strip are w split
        ∙ length_odd (map seg_of A) A (length-map A seg_of)
        ∙ length_odd A (own k after) (counted (λ (l : Line). eqb l.owner k) S W all before after split_perm (λ l i. east_test (side l.seg q) (east l i)) (λ l i. west_test (side l.seg q) (west l i)))

-- ---- marks

pub odds_are : (q : RationalPoint) (gs : List (List Seg)) (first : ℕ) (after : List Line) → ((k : ℕ) → k < length gs → odd_at (get_or gs k []) q ≡ is_odd_list (own (first + k) after)) → map (λ g. odd_at g q) gs ≡ odds first (length gs) after
odds_are q [] first after h = refl
odds_are q (g ∷ gs) first after h = ap₂ (λ b bs. b ∷ bs)
    (h 0 (omega arith) ∙ ap (λ n. is_odd_list (own n after)) start)
    (odds_are q gs (first + 1) after (λ k l. let n : first + suc k ≡ first + 1 + k = omega arith in h (suc k) (omega arith) ∙ ap (λ n. is_odd_list (own n after)) n))
  where
    start : first + 0 ≡ first
    start = omega arith

module _ (f : List Seg → Bool) where
  counts : (xs : List (List Seg)) → count_by f xs ≡ set_marks (map f xs)
  counts [] = refl
  counts (x ∷ xs) = sum_by-cons (λ y. cond (f y) 1 0) x xs ∙ ap (λ n. cond (f x) 1 0 + n) (counts xs) ∙ sym (sum_by-cons (λ (b : Bool). cond b 1 0) (f x) (map f xs))

  marks_length : (xs : List (List Seg)) → length (filter f xs) ≡ set_marks (map f xs)
  marks_length xs = length-filter f xs ∙ counts xs

  first_marked : (b : Bool) (n : ℕ) → ltb 0 (cond b 1 0 + n) ≡ (b || ltb 0 n)
  first_marked true n = grind (arith, nat_tests)
  first_marked false n = grind (arith, nat_tests)

  marks_any : (xs : List (List Seg)) → list_any f xs ≡ ltb 0 (set_marks (map f xs))
  marks_any [] = refl
  marks_any (x ∷ xs) = ap (λ b. f x || b) (marks_any xs) ∙ sym (first_marked (f x) (set_marks (map f xs))) ∙ ap (ltb 0) (sym (sum_by-cons (λ (b : Bool). cond b 1 0) (f x) (map f xs)))

  pub right_marks : (areas covers : List (List Seg)) → is_right f areas covers ≡ is_right_by (map f areas) (map f covers)
  right_marks areas covers = ap₂ (λ b n. cond b (eqb n 1) (eqb n 0)) (marks_any covers) (marks_length areas)
