-- Blocks of cells, whole and cut.
use Rattle.std.proofs.Common.{◌≡◌, ◌≢◌, ℕ, suc, ◌+◌, ◌-◌, ◌*◌, ◌<◌, ◌≤◌, ◌⊎◌, inl, inr, ⊎_elim, Bool, true, false, true≢false, cond, List, [], ◌∷◌, ◌++◌, length, get_or, set, refl, sym, ap, ◌∙◌, subst, mul-le-mul, arith}
use Rattle.std.specs.Prelude.{◌↔◌, IsTrue, nat_lt, sum_by}
use Rattle.std.proofs.lemmas.Bool.Decides.{nat_tests}
use Rattle.std.proofs.lemmas.Grind.{common_steps}
use Rattle.std.proofs.lemmas.List.{get_or-set_same, get_or-set_other}
use Rattle.std.proofs.lemmas.List.Sums.{sum_by-set, sum_by-cons}
use Rattle.mesh_definitions.specs.Blocks.{IsSubRect, half, first_part, second_part}
use Rattle.mesh_definitions.specs.Mesh.{has_cell}
use Rattle.mesh_definitions.specs.declared.Rect.{Rect}
use Rattle.tri_mesh.specs.Cells.{BlocksView, view_of, cells, rect_in, rect_of, block_in, area, AreBlocks, Renumbers}

-- a cell of a rectangle, by its row and column
pub record InRect (r : Rect) (i j : ℕ) : Type 0 where
  pub north : r.row ≤ i
  pub south : i < r.row + r.rows
  pub west : r.col ≤ j
  pub east : j < r.col + r.cols

pub in_rect : (r : Rect) (i j : ℕ) → IsTrue (has_cell r i j) → InRect r i j
in_rect r i j h = record { north = grind (arith, nat_tests); south = grind (arith, nat_tests); west = grind (arith, nat_tests); east = grind (arith, nat_tests) }

pub has_it : (r : Rect) (i j : ℕ) → InRect r i j → IsTrue (has_cell r i j)
has_it r i j h = let n = h.north in let s = h.south in let w = h.west in let e = h.east in grind (arith, nat_tests)

-- two rectangles that have the cells of a third, and none in common
pub record Splits (r first second : Rect) : Type 0 where
  pub some_first : (1 ≤ first.rows) × (1 ≤ first.cols)
  pub some_second : (1 ≤ second.rows) × (1 ≤ second.cols)
  pub first_inside : (i j : ℕ) → InRect first i j → InRect r i j
  pub second_inside : (i j : ℕ) → InRect second i j → InRect r i j
  pub apart : (i j : ℕ) → InRect first i j → ¬ (InRect second i j)
  pub either : (i j : ℕ) → InRect r i j → InRect first i j ⊎ InRect second i j
  pub areas : area first + area second ≡ area r
  pub inside : (all : Rect) → IsSubRect r all → IsSubRect first all × IsSubRect second all

split_rows : (r : Rect) (h : ℕ) → 1 ≤ h → h < r.rows → 1 ≤ r.cols → Splits r (record { row = r.row; col = r.col; rows = h; cols = r.cols }) (record { row = r.row + h; col = r.col; rows = r.rows - h; cols = r.cols })
split_rows r h low high cols = record {
  some_first = (low, cols);
  some_second = (omega (arith, high), cols);
  first_inside = λ i j k. record { north = k.north; south = omega (arith, k.south, high); west = k.west; east = k.east };
  second_inside = λ i j k. record { north = omega (arith, k.north); south = omega (arith, k.south, high); west = k.west; east = k.east };
  apart = λ i j k l. omega (arith, k.south, l.north);
  either = λ i j k. by i j k (order i (r.row + h));
  areas = let e : h + (r.rows - h) ≡ r.rows = omega (arith, high) in let p = ap (λ n. n * r.cols) e in omega (arith, p);
  inside = λ all k. (record { some_rows = low; some_cols = cols; north = k.north; south = omega (arith, k.south, high); west = k.west; east = k.east }, record { some_rows = omega (arith, high); some_cols = cols; north = omega (arith, k.north); south = omega (arith, k.south, high); west = k.west; east = k.east });
}
  where
    order : (i k : ℕ) → (i < k) ⊎ (k ≤ i)
    order i k = grind arith

    by : (i j : ℕ) → InRect r i j → (i < r.row + h) ⊎ (r.row + h ≤ i) → InRect (record { row = r.row; col = r.col; rows = h; cols = r.cols }) i j ⊎ InRect (record { row = r.row + h; col = r.col; rows = r.rows - h; cols = r.cols }) i j
    by i j k o = ⊎_elim
        (λ l. inl (record { north = k.north; south = l; west = k.west; east = k.east }))
        (λ l. inr (record { north = l; south = omega (arith, k.south, high); west = k.west; east = k.east })) o

split_cols : (r : Rect) (h : ℕ) → 1 ≤ h → h < r.cols → 1 ≤ r.rows → Splits r (record { row = r.row; col = r.col; rows = r.rows; cols = h }) (record { row = r.row; col = r.col + h; rows = r.rows; cols = r.cols - h })
split_cols r h low high rows = record {
  some_first = (rows, low);
  some_second = (rows, omega (arith, high));
  first_inside = λ i j k. record { north = k.north; south = k.south; west = k.west; east = omega (arith, k.east, high) };
  second_inside = λ i j k. record { north = k.north; south = k.south; west = omega (arith, k.west); east = omega (arith, k.east, high) };
  apart = λ i j k l. omega (arith, k.east, l.west);
  either = λ i j k. by i j k (order j (r.col + h));
  areas = let e : h + (r.cols - h) ≡ r.cols = omega (arith, high) in let p = ap (λ n. r.rows * n) e in omega (arith, p);
  inside = λ all k. (record { some_rows = rows; some_cols = low; north = k.north; south = k.south; west = k.west; east = omega (arith, k.east, high) }, record { some_rows = rows; some_cols = omega (arith, high); north = k.north; south = k.south; west = omega (arith, k.west); east = omega (arith, k.east, high) });
}
  where
    order : (i k : ℕ) → (i < k) ⊎ (k ≤ i)
    order i k = grind arith

    by : (i j : ℕ) → InRect r i j → (j < r.col + h) ⊎ (r.col + h ≤ j) → InRect (record { row = r.row; col = r.col; rows = r.rows; cols = h }) i j ⊎ InRect (record { row = r.row; col = r.col + h; rows = r.rows; cols = r.cols - h }) i j
    by i j k o = ⊎_elim
        (λ l. inl (record { north = k.north; south = k.south; west = k.west; east = l }))
        (λ l. inr (record { north = k.north; south = k.south; west = l; east = omega (arith, k.east, high) })) o

half_low : (n : ℕ) → 2 ≤ n → 1 ≤ half n
half_low n h = omega (arith, h)

half_high : (n : ℕ) → 2 ≤ n → half n < n
half_high n h = omega (arith, h)

pub splits : (r : Rect) → 1 ≤ r.rows → 1 ≤ r.cols → (2 ≤ r.rows) ⊎ (2 ≤ r.cols) → Splits r (first_part r) (second_part r)
splits r rows cols long = by (nat_lt r.cols r.rows) refl
  where
    higher : nat_lt r.cols r.rows ≡ true → 2 ≤ r.rows
    higher e = grind (arith, nat_tests)

    wider : nat_lt r.cols r.rows ≡ false → 2 ≤ r.cols
    wider e = let w : r.rows ≤ r.cols = grind (arith, nat_tests) in ⊎_elim (λ h. omega (arith, h, w)) (λ h. h) long

    by : (b : Bool) → nat_lt r.cols r.rows ≡ b → Splits r (cond b (record { row = r.row; col = r.col; rows = half r.rows; cols = r.cols }) (record { row = r.row; col = r.col; rows = r.rows; cols = half r.cols })) (cond b (record { row = r.row + half r.rows; col = r.col; rows = r.rows - half r.rows; cols = r.cols }) (record { row = r.row; col = r.col + half r.cols; rows = r.rows; cols = r.cols - half r.cols }))
    by true e = let h = higher e in split_rows r (half r.rows) (half_low r.rows h) (half_high r.rows h) cols
    by false e = let h = wider e in split_cols r (half r.cols) (half_low r.cols h) (half_high r.cols h) rows

-- ---- one block more

-- the rectangles after block k was cut
abbrev pub cut_rects : List Rect → ℕ → Rect → Rect → List Rect
cut_rects rects k first second = set (rects ++ second ∷ []) k first

module _ (rects : List Rect) (k : ℕ) (known : k < length rects) (first second : Rect) where
  longer : length (rects ++ second ∷ []) ≡ length rects + 1
  longer = grind (arith, common_steps)

  pub cut_length : length (cut_rects rects k first second) ≡ length rects + 1
  cut_length = grind (arith, common_steps)

  pub cut_here : rect_in (cut_rects rects k first second) k ≡ first
  cut_here = let l = longer in get_or-set_same (rects ++ second ∷ []) k first (cells 0 0) (omega (arith, known, l))

  pub cut_last : rect_in (cut_rects rects k first second) (length rects) ≡ second
  cut_last = get_or-set_other (rects ++ second ∷ []) k (length rects) first (cells 0 0) (differ (length rects) known) ∙ end rects
    where
      differ : (n : ℕ) → k < n → n ≢ k
      differ n h = grind arith

      end : (xs : List Rect) → rect_in (xs ++ second ∷ []) (length xs) ≡ second
      end xs = grind (arith, common_steps)

  pub cut_other : (l : ℕ) → l < length rects → l ≢ k → rect_in (cut_rects rects k first second) l ≡ rect_in rects l
  cut_other l h n = get_or-set_other (rects ++ second ∷ []) k l first (cells 0 0) n ∙ front rects l h
    where
      front : (xs : List Rect) (l : ℕ) → l < length xs → rect_in (xs ++ second ∷ []) l ≡ rect_in xs l
      front xs l h = grind (arith, common_steps)

  pub cut_areas : Splits (rect_in rects k) first second → sum_by area (cut_rects rects k first second) ≡ sum_by area rects
  cut_areas s =
      let l = longer in
      let a = sum_by-set area (rects ++ second ∷ []) k first (cells 0 0) (omega (arith, known, l)) in
      let b : sum_by area (rects ++ second ∷ []) ≡ sum_by area rects + area second = sum_end rects in
      let g : area (rect_in (rects ++ second ∷ []) k) ≡ area (rect_in rects k) = ap area (front rects k known) in
      let e = s.areas in
      omega (arith, a, b, e, g)
    where
      front : (xs : List Rect) (l : ℕ) → l < length xs → rect_in (xs ++ second ∷ []) l ≡ rect_in xs l
      front xs l h = grind (arith, common_steps)

      sum_end : (xs : List Rect) → sum_by area (xs ++ second ∷ []) ≡ sum_by area xs + area second
      sum_end xs = grind (arith, common_steps)

-- one of the numbers up to n, by whether it is n, k or another
which : (n k l : ℕ) → l < n + 1 → (l ≡ n) ⊎ ((l ≡ k) ⊎ ((l < n) × (l ≢ k)))
which n k l h = ⊎_elim inl (λ b. inr (⊎_elim inl (λ d. inr (b, d)) (same_or l k))) (last_or l n h)
  where
    last_or : (l n : ℕ) → l < n + 1 → (l ≡ n) ⊎ (l < n)
    last_or l n h = grind arith

    same_or : (l k : ℕ) → (l ≡ k) ⊎ (l ≢ k)
    same_or l k = grind arith

module _ (v : BlocksView) (h : AreBlocks v) (k : ℕ) (known : k < length v.rects) (first second : Rect) (s : Splits (rect_of v k) first second) (numbers : List ℕ) (len : length numbers ≡ length v.numbers) (renumbers : Renumbers v.numbers v.cols second (length v.rects) numbers) where
  after : BlocksView
  after = view_of v.rows v.cols (cut_rects v.rects k first second) numbers

  inside : (l : ℕ) → l < length v.rects + 1 → IsSubRect (rect_in (cut_rects v.rects k first second) l) (cells v.rows v.cols)
  inside l b =
      let both = s.inside (cells v.rows v.cols) (h.blocks.inside k known) in
      ⊎_elim
      (λ e. subst (λ r. IsSubRect r (cells v.rows v.cols)) (sym (ap (rect_in (cut_rects v.rects k first second)) e ∙ cut_last v.rects k known first second)) both.1)
      (⊎_elim
      (λ e. subst (λ r. IsSubRect r (cells v.rows v.cols)) (sym (ap (rect_in (cut_rects v.rects k first second)) e ∙ cut_here v.rects k known first second)) both.0)
      (λ o. subst (λ r. IsSubRect r (cells v.rows v.cols)) (sym (cut_other v.rects k known first second l o.0 o.1)) (h.blocks.inside l o.0)))
      (which (length v.rects) k l b)

  module _ (i j : ℕ) (there : IsTrue (has_cell (cells v.rows v.cols) i j)) where
    new : ℕ
    new = get_or numbers (i * v.cols + j) 0

    number : new ≡ cond (has_cell second i j) (length v.rects) (block_in v i j)
    unfolding new
    number = let e = (in_rect (cells v.rows v.cols) i j there).east in renumbers i j (omega (arith, e))

    old_below : block_in v i j < length v.rects
    old_below = h.blocks.below i j there

    in_second : has_cell second i j ≡ true → block_in v i j ≡ k
    in_second e = (h.blocks.holds i j k there known).0 (has_it (rect_of v k) i j (s.second_inside i j (in_rect second i j e)))

    below : new < length v.rects + 1
    below = by (has_cell second i j) refl
      where
        by : (b : Bool) → has_cell second i j ≡ b → new < length v.rects + 1
        by true e = let n = number ∙ ap (λ b. cond b (length v.rects) (block_in v i j)) e in omega (arith, n)
        by false e = let n = number ∙ ap (λ b. cond b (length v.rects) (block_in v i j)) e in let o = old_below in omega (arith, n, o)

    module _ (l : ℕ) (b : l < length v.rects + 1) where
      rect : Rect
      rect = rect_in (cut_rects v.rects k first second) l

      is_last : l ≡ length v.rects → rect ≡ second
      unfolding rect
      is_last e = ap (rect_in (cut_rects v.rects k first second)) e ∙ cut_last v.rects k known first second

      is_first : l ≡ k → rect ≡ first
      unfolding rect
      is_first e = ap (rect_in (cut_rects v.rects k first second)) e ∙ cut_here v.rects k known first second

      is_other : l < length v.rects → l ≢ k → rect ≡ rect_of v l
      unfolding rect
      is_other h n = cut_other v.rects k known first second l h n

      has : (r : Rect) → rect ≡ r → IsTrue (has_cell rect i j) → IsTrue (has_cell r i j)
      has r e = subst (λ r. IsTrue (has_cell r i j)) e

      gives : (r : Rect) → rect ≡ r → IsTrue (has_cell r i j) → IsTrue (has_cell rect i j)
      gives r e = subst (λ r. IsTrue (has_cell r i j)) (sym e)

      in_new : has_cell second i j ≡ true → IsTrue (has_cell rect i j) ↔ (new ≡ l)
      in_new e =
          let n = number ∙ ap (λ b. cond b (length v.rects) (block_in v i j)) e in (
            (λ c. ⊎_elim (λ p. n ∙ sym p)
                (⊎_elim
                (λ p. absurd (s.apart i j (in_rect first i j (has first (is_first p) c)) (in_rect second i j e)))
                (λ o. absurd (o.1 (sym ((h.blocks.holds i j l there o.0).0 (has (rect_of v l) (is_other o.0 o.1) c)) ∙ in_second e))))
                (which (length v.rects) k l b)),
            (λ c. gives second (is_last (sym c ∙ n)) e),
          )

      not_new : has_cell second i j ≡ false → IsTrue (has_cell rect i j) ↔ (new ≡ l)
      not_new e =
          let n = number ∙ ap (λ b. cond b (length v.rects) (block_in v i j)) e in
          let o = old_below in (
            (λ c. ⊎_elim
                (λ p. absurd (true≢false (sym (has second (is_last p) c) ∙ e)))
                (⊎_elim
                (λ p. n ∙ ((h.blocks.holds i j k there known).0 (has_it (rect_of v k) i j (s.first_inside i j (in_rect first i j (has first (is_first p) c)))) ∙ sym p))
                (λ q. n ∙ (h.blocks.holds i j l there q.0).0 (has (rect_of v l) (is_other q.0 q.1) c)))
                (which (length v.rects) k l b)),
            (λ c. ⊎_elim
                (λ p. absurd (omega (arith, n, o, c, p)))
                (⊎_elim
                (λ p. ⊎_elim (λ f. gives first (is_first p) (has_it first i j f)) (λ f. absurd (true≢false (sym (has_it second i j f) ∙ e))) (s.either i j (in_rect (rect_of v k) i j ((h.blocks.holds i j k there known).1 (sym n ∙ (c ∙ p))))))
                (λ q. gives (rect_of v l) (is_other q.0 q.1) ((h.blocks.holds i j l there q.0).1 (sym n ∙ c))))
                (which (length v.rects) k l b)),
          )

      holds : IsTrue (has_cell rect i j) ↔ (new ≡ l)
      holds = by (has_cell second i j) refl
        where
          by : (b : Bool) → has_cell second i j ≡ b → IsTrue (has_cell rect i j) ↔ (new ≡ l)
          by true e = in_new e
          by false e = not_new e

  pub are_blocks : AreBlocks (view_of v.rows v.cols (cut_rects v.rects k first second) numbers)
  unfolding new rect
  are_blocks = record {
    few_rows = h.few_rows;
    few_cols = h.few_cols;
    full = len ∙ h.full;
    areas = cut_areas v.rects k known first second s ∙ h.areas;
    blocks = record {
      inside = λ l b. inside l (subst (λ n. l < n) (cut_length v.rects k known first second) b);
      below = λ i j there. subst (λ n. get_or numbers (i * v.cols + j) 0 < n) (sym (cut_length v.rects k known first second)) (below i j there);
      holds = λ i j l there b. holds i j there l (subst (λ n. l < n) (cut_length v.rects k known first second) b);
    };
  }

-- ---- how many blocks there are

count_most : (rects : List Rect) → ((k : ℕ) → k < length rects → 1 ≤ area (rect_in rects k)) → length rects ≤ sum_by area rects
count_most [] h = omega arith
count_most (r ∷ rects) h =
    let a : 1 ≤ area r = h 0 (omega arith) in
    let b = count_most rects (λ k l. h (suc k) (omega (arith, l))) in
    let e : sum_by area (r ∷ rects) ≡ area r + sum_by area rects = sum_by-cons area r rects in
    omega (arith, a, b, e)

pub few_blocks : (v : BlocksView) → AreBlocks v → length v.rects ≤ 1048576
few_blocks v h =
    let a = count_most v.rects (λ k l. mul-le-mul (h.blocks.inside k l).some_rows (h.blocks.inside k l).some_cols) in
    let b = mul-le-mul h.few_rows h.few_cols in
    omega (arith, a, b, h.areas)
