-- A part of a row in the place of another: neighbours of the rest are as they were.
use Rattle.std.proofs.Common.{◌≡◌, ℕ, zero, suc, ◌+◌, ◌-◌, ◌<◌, ◌≤◌, ℤ, List, [], ◌∷◌, ◌++◌, map, length, take, drop, get_or, set, refl, ap, ap₂, sym, ◌∙◌, subst, append_assoc, arith, ⊎_elim, length-append, length-drop}
use Rattle.std.specs.List.{filter, slice_get, slice_range}
use Rattle.std.specs.List.Sorted.{IsPermutation}
use Rattle.std.proofs.lemmas.Bool.{cases_lt}
use Rattle.std.proofs.lemmas.List.{map-append, length-take-le, take-append-drop, drop-drop, drop_more, set_at, take_more}
use Rattle.std.proofs.lemmas.List.Elements.{filter-append}
use Rattle.std.proofs.lemmas.List.Sorted.{IsPermutation-trans, IsPermutation-append_left, IsPermutation-append_right, IsPermutation-append_comm}
use Rattle.cell_check.specs.Joints.{entry_before, line_of, IsJoint, IsJointAt, IsSound}
use Rattle.cell_check.specs.Sweeps.{goes_above, HaveSameAbove}
use Rattle.cell_check.specs.declared.entry.Entry.{Entry}
use Rattle.cell_check.specs.declared.holders.Counts.{Counts}
use Rattle.cell_check.specs.declared.line.Line.{Line}
use Rattle.cell_check.proofs.Filtering.{permuted, twice}

module _ {X : Type 0} where
  get_left : (xs ys : List X) (k : ℕ) → k < length xs → slice_get (xs ++ ys) k ≡ slice_get xs k
  get_left [] ys k h = absurd (omega arith)
  get_left (x ∷ xs) ys zero h = refl
  get_left (x ∷ xs) ys (suc k) h = get_left xs ys k (omega arith)

  get_right : (xs ys : List X) (k n : ℕ) → n ≡ length xs + k → slice_get (xs ++ ys) n ≡ slice_get ys k
  get_right [] ys k n e = let same : n ≡ k = omega arith in ap (slice_get ys) same
  get_right (x ∷ xs) ys k zero e = absurd (omega arith)
  get_right (x ∷ xs) ys k (suc n) e = get_right xs ys k n (omega arith)

  get_take : (n : ℕ) (xs : List X) (k : ℕ) → k < n → slice_get (take n xs) k ≡ slice_get xs k
  get_take zero xs k h = absurd (omega arith)
  get_take (suc n) [] k h = refl
  get_take (suc n) (x ∷ xs) zero h = refl
  get_take (suc n) (x ∷ xs) (suc k) h = get_take n xs k (omega arith)

  get_drop : (n : ℕ) (xs : List X) (k m : ℕ) → m ≡ n + k → slice_get (drop n xs) k ≡ slice_get xs m
  get_drop zero xs k m e = let same : k ≡ m = omega arith in ap (slice_get xs) same
  get_drop (suc n) [] k m e = refl
  get_drop (suc n) (x ∷ xs) k zero e = absurd (omega arith)
  get_drop (suc n) (x ∷ xs) k (suc m) e = get_drop n xs k m (omega arith)

before : (row : List Entry) (m k : ℕ) → m ≡ k + 1 → entry_before row m ≡ slice_get row k
before row zero k e = absurd (omega arith)
before row (suc m) k e = let same : m ≡ k = omega arith in ap (slice_get row) same

module _ (row new part : List Entry) (from to : ℕ) (order : from ≤ to) (within : to ≤ length row) (is : new ≡ take from row ++ (part ++ drop to row)) where
  front : length (take from row) ≡ from
  front = length-take-le from row (omega arith)

  west_part : (k : ℕ) → k < from → slice_get new k ≡ slice_get row k
  west_part k h = ap (λ t. slice_get t k) is ∙ get_left (take from row) (part ++ drop to row) k (omega (arith, front)) ∙ get_take from row k h

  east_part : (j k m : ℕ) → k ≡ from + length part + j → m ≡ to + j → slice_get new k ≡ slice_get row m
  east_part j k m e f =
      ap (λ t. slice_get t k) is
      ∙ get_right (take from row) (part ++ drop to row) (length part + j) k (omega (arith, front))
      ∙ get_right part (drop to row) j (length part + j) refl
      ∙ get_drop to row j m f

  long : length new ≡ from + length part + (length row - to)
  long = ap length is ∙ length-append (take from row) (part ++ drop to row) ∙ omega (arith, front, length-append part (drop to row), length-drop to row)

  module _ (c : Counts) where
    same_joint : (k m : ℕ) → entry_before new k ≡ entry_before row m → slice_get new k ≡ slice_get row m → IsJointAt c row m → IsJointAt c new k
    same_joint k m e f h = subst (λ t. IsJoint c t (slice_get new k)) (sym e) (subst (IsJoint c (entry_before row m)) (sym f) h)

    in_front : (at : ℕ) → at < from → IsSound c row → IsJointAt c new at
    in_front zero h s = same_joint 0 0 refl (west_part 0 h) (s 0 (omega arith))
    in_front (suc k) h s = same_joint (suc k) (suc k) (west_part k (omega arith)) (west_part (suc k) h) (s (suc k) (omega arith))

    behind : (at : ℕ) → from + length part < at → at ≤ length new → IsSound c row → IsJointAt c new at
    behind at h k s =
        let j : ℕ = at - (from + length part) - 1 in
        let a : at ≡ from + length part + j + 1 = omega arith in
        let m : ℕ = to + j + 1 in
        same_joint at m
        (before new at (from + length part + j) a ∙ east_part j (from + length part + j) (to + j) refl refl ∙ sym (before row m (to + j) refl))
        (east_part (j + 1) at m (omega arith) (omega arith))
        (s m (omega (arith, long)))

    pub spliced : ((at : ℕ) → from ≤ at → at ≤ from + length part → IsJointAt c new at) → IsSound c row → IsSound c new
    spliced tested s at h = ⊎_elim
        (λ (b : at < from). in_front at b s)
        (λ (b : from ≤ at). ⊎_elim
        (λ (d : from + length part < at). behind at d h s)
        (λ (d : at ≤ from + length part). tested at b d)
        (cases_lt (from + length part) at))
        (cases_lt at from)

-- the lines that go on above a height
module _ (y : ℤ) where
  abbrev F : List Line → List Line
  F ls = filter (goes_above y) ls

  both : (ls ms : List Line) → F (ls ++ ms) ≡ F ls ++ F ms
  both ls ms = filter-append (goes_above y) ls ms

  -- the lines of a part, but for those that end, and more, in the place of the part
  pub replaced : (front part rest lines more : List Line) → IsPermutation (F part ++ more) lines → HaveSameAbove y ((front ++ (part ++ rest)) ++ more) (front ++ (lines ++ rest))
  replaced front part rest lines more h =
      subst (λ t. IsPermutation t (F (front ++ (lines ++ rest)))) (sym left) (subst (IsPermutation (F front ++ (F part ++ (F rest ++ F more)))) (sym right)
      (IsPermutation-append_right (F front) (F part ++ (F rest ++ F more)) (F lines ++ F rest)
      (IsPermutation-trans (F part ++ (F rest ++ F more)) ((F part ++ F more) ++ F rest) (F lines ++ F rest) turned (IsPermutation-append_left (F rest) (F part ++ F more) (F lines) kept))))
    where
      left : F ((front ++ (part ++ rest)) ++ more) ≡ F front ++ (F part ++ (F rest ++ F more))
      left = both (front ++ (part ++ rest)) more ∙ ap (λ t. t ++ F more) (both front (part ++ rest) ∙ ap (λ t. F front ++ t) (both part rest)) ∙ append_assoc (F front) (F part ++ F rest) (F more) ∙ ap (λ t. F front ++ t) (append_assoc (F part) (F rest) (F more))

      right : F (front ++ (lines ++ rest)) ≡ F front ++ (F lines ++ F rest)
      right = both front (lines ++ rest) ∙ ap (λ t. F front ++ t) (both lines rest)

      turned : IsPermutation (F part ++ (F rest ++ F more)) ((F part ++ F more) ++ F rest)
      turned = subst (IsPermutation (F part ++ (F rest ++ F more))) (sym (append_assoc (F part) (F more) (F rest))) (IsPermutation-append_right (F part) (F rest ++ F more) (F more ++ F rest) (IsPermutation-append_comm (F rest) (F more)))

      kept : IsPermutation (F part ++ F more) (F lines)
      kept = subst (λ t. IsPermutation t (F lines)) (both (F part) more ∙ ap (λ t. t ++ F more) (twice (goes_above y) (goes_above y) (λ x e. e) part)) (permuted (goes_above y) (F part ++ more) lines h)

-- the row's lines after the splice
pub same_above : (y : ℤ) (row new part entries : List Entry) (lines more : List Line) (from to : ℕ) → new ≡ take from row ++ (entries ++ drop to row) → take from row ++ (part ++ drop to row) ≡ row → map line_of entries ≡ lines → IsPermutation (filter (goes_above y) (map line_of part) ++ more) lines → HaveSameAbove y (map line_of row ++ more) (map line_of new)
same_above y row new part entries lines more from to is parts e h =
    subst (λ t. HaveSameAbove y (t ++ more) (map line_of new)) (sym (three part) ∙ ap (map line_of) parts)
    (subst (HaveSameAbove y ((map line_of (take from row) ++ (map line_of part ++ map line_of (drop to row))) ++ more)) (sym (ap (map line_of) is ∙ three entries ∙ ap (λ t. map line_of (take from row) ++ (t ++ map line_of (drop to row))) e))
    (replaced y (map line_of (take from row)) (map line_of part) (map line_of (drop to row)) lines more h))
  where
    three : (m : List Entry) → map line_of (take from row ++ (m ++ drop to row)) ≡ map line_of (take from row) ++ (map line_of m ++ map line_of (drop to row))
    three m = map-append line_of (take from row) (m ++ drop to row) ∙ ap (λ t. map line_of (take from row) ++ t) (map-append line_of m (drop to row))

pub three_parts : {X : Type 0} (xs : List X) (from to : ℕ) → from ≤ to → take from xs ++ (slice_range xs from to ++ drop to xs) ≡ xs
three_parts xs from to h =
    let e : from + (to - from) ≡ to = omega arith in
    ap (λ t. take from xs ++ t) (ap (λ t. slice_range xs from to ++ t) (sym (drop-drop (to - from) from xs ∙ ap (λ n. drop n xs) e)) ∙ take-append-drop (to - from) (drop from xs)) ∙ take-append-drop from xs

set_west : (rows : List Entry) (k : ℕ) (e f : Entry) → e.line ≡ (get_or rows k f).line → map line_of (set rows k e) ≡ map line_of rows
set_west [] k e f h = refl
set_west (x ∷ rows) zero e f h = ap (λ l. l ∷ map line_of rows) h
set_west (x ∷ rows) (suc k) e f h = ap (λ t. x.line ∷ t) (set_west rows k e f h)

pub keeps_lines : (rows begun : List Entry) (k : ℕ) (e f : Entry) → e.line ≡ (get_or rows k f).line → map line_of rows ≡ map line_of begun → map line_of (set rows k e) ≡ map line_of begun
keeps_lines rows begun k e f h i = set_west rows k e f h ∙ i

-- one more entry written over
pub overwrites : {X : Type 0} (rows entries : List X) (from i : ℕ) (d : X) → from + length entries ≤ length rows → i < length entries → set (take from rows ++ (take i entries ++ drop (from + i) rows)) (from + i) (get_or entries i d) ≡ take from rows ++ (take (i + 1) entries ++ drop (from + (i + 1)) rows)
overwrites rows entries from i d h k =
    let e : from + i + 1 ≡ from + (i + 1) = omega arith in
    let within : from + i < length rows = omega arith in
    let long : length (take from rows ++ take i entries) ≡ from + i = length-append (take from rows) (take i entries) ∙ ap₂ (λ a b. a + b) (length-take-le from rows (omega arith)) (length-take-le i entries (omega arith)) in
    ap (λ t. set t (from + i) (get_or entries i d)) (sym (append_assoc (take from rows) (take i entries) (drop (from + i) rows)) ∙ ap (λ t. (take from rows ++ take i entries) ++ t) (drop_more rows (from + i) d within))
    ∙ set_at (take from rows ++ take i entries) (get_or rows (from + i) d) (drop (from + i + 1) rows) (get_or entries i d) (from + i) long
    ∙ append_assoc (take from rows) (take i entries) (get_or entries i d ∷ drop (from + i + 1) rows)
    ∙ ap (λ t. take from rows ++ t)
    (sym (append_assoc (take i entries) (get_or entries i d ∷ []) (drop (from + i + 1) rows))
    ∙ ap (λ t. t ++ drop (from + i + 1) rows) (sym (take_more entries i d k))
    ∙ ap (λ n. take (i + 1) entries ++ drop n rows) e)
