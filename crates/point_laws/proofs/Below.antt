-- The rectangles that cutting comes to lie one below the other where they share a cell.
use Rattle.std.proofs.Common.{◌≡◌, ⊎_elim, ◌⊎◌, inl, inr, ℕ, ◌+◌, ◌-◌, ◌<◌, ◌≤◌, Bool, true, false, cond, refl, sym, arith}
use Rattle.std.specs.Prelude.{nat_lt}
use Rattle.std.proofs.lemmas.Bool.Decides.{nat_tests}
use Rattle.mesh_definitions.specs.Blocks.IsReached.{First, Second, Whole}
use Rattle.mesh_definitions.specs.Blocks.{IsBlock, IsCut, IsReached, first_part, half, second_part}
use Rattle.mesh_definitions.specs.Field.{Field}
use Rattle.mesh_definitions.specs.Mesh.{all_cells, has_cell}
use Rattle.mesh_definitions.specs.declared.Rect.{Rect}

-- ---- the parts of a rectangle

-- a cell of a rectangle, by its row and column
record InRect (r : Rect) (i j : ℕ) : Type 0 where
  north : r.row ≤ i
  south : i < r.row + r.rows
  west : r.col ≤ j
  east : j < r.col + r.cols

-- the test for a cell says just that
in_rect : (r : Rect) (i j : ℕ) → has_cell r i j ≡ true → InRect r i j
in_rect r i j h = record { north = grind (arith, nat_tests); south = grind (arith, nat_tests); west = grind (arith, nat_tests); east = grind (arith, nat_tests) }

has_it : (r : Rect) (i j : ℕ) → InRect r i j → has_cell r i j ≡ true
has_it r i j h = let n = h.north in let s = h.south in let w = h.west in let e = h.east in grind (arith, nat_tests)

-- half of a number is no more than the number
half_within : (n : ℕ) → half n ≤ n
half_within n = omega arith

-- the parts of a rectangle that is cut across, and of one that is cut along
module _ (r : Rect) where
  abbrev upper : Rect
  upper = record { row = r.row; col = r.col; rows = half r.rows; cols = r.cols }

  abbrev lower : Rect
  lower = record { row = r.row + half r.rows; col = r.col; rows = r.rows - half r.rows; cols = r.cols }

  abbrev left : Rect
  left = record { row = r.row; col = r.col; rows = r.rows; cols = half r.cols }

  abbrev right : Rect
  right = record { row = r.row; col = r.col + half r.cols; rows = r.rows; cols = r.cols - half r.cols }

-- what holds of the parts in both cases holds of the parts
parts : (r : Rect) (P : Rect → Rect → Type 0) → P (upper r) (lower r) → P (left r) (right r) → P (first_part r) (second_part r)
parts r P across along = by (nat_lt r.cols r.rows)
  where
    by : (b : Bool) → P (cond b (upper r) (left r)) (cond b (lower r) (right r))
    by true = across
    by false = along

-- two rectangles with cells of a third alone, and none that both have
record ArePartsOf (r p q : Rect) : Type 0 where
  one : (i j : ℕ) → InRect p i j → InRect r i j
  two : (i j : ℕ) → InRect q i j → InRect r i j
  apart : (i j : ℕ) → InRect p i j → InRect q i j → ⊥

-- the two parts of a rectangle are such
parts_of : (r : Rect) → ArePartsOf r (first_part r) (second_part r)
parts_of r = parts r (ArePartsOf r) across along
  where
    across : ArePartsOf r (upper r) (lower r)
    across = let m = half_within r.rows in record {
      one = λ i j h. let s = h.south in record { north = h.north; south = omega (arith, s, m); west = h.west; east = h.east };
      two = λ i j h. let n = h.north in let s = h.south in record { north = omega (arith, n); south = omega (arith, s, m); west = h.west; east = h.east };
      apart = λ i j h k. let s = h.south in let n = k.north in absurd (omega (arith, s, n));
    }

    along : ArePartsOf r (left r) (right r)
    along = let m = half_within r.cols in record {
      one = λ i j h. let e = h.east in record { north = h.north; south = h.south; west = h.west; east = omega (arith, e, m) };
      two = λ i j h. let w = h.west in let e = h.east in record { north = h.north; south = h.south; west = omega (arith, w); east = omega (arith, e, m) };
      apart = λ i j h k. let e = h.east in let w = k.west in absurd (omega (arith, e, w));
    }

-- a cell of a part is a cell of the rectangle, and no cell is in both parts
first_inside : (r : Rect) (i j : ℕ) → has_cell (first_part r) i j ≡ true → has_cell r i j ≡ true
first_inside r i j h = has_it r i j ((parts_of r).one i j (in_rect (first_part r) i j h))

second_inside : (r : Rect) (i j : ℕ) → has_cell (second_part r) i j ≡ true → has_cell r i j ≡ true
second_inside r i j h = has_it r i j ((parts_of r).two i j (in_rect (second_part r) i j h))

parts_apart : (r : Rect) (i j : ℕ) → has_cell (first_part r) i j ≡ true → has_cell (second_part r) i j ≡ true → ⊥
parts_apart r i j h k = (parts_of r).apart i j (in_rect (first_part r) i j h) (in_rect (second_part r) i j k)

-- ---- below

-- a rectangle is below another: it is that one, or that one is cut and it is below one of the two parts
data Below (f : Field) : Rect → Rect → Type 0 where
  Here : {r : Rect} → Below f r r
  InFirst : {r s : Rect} → IsCut f r → Below f (first_part r) s → Below f r s
  InSecond : {r s : Rect} → IsCut f r → Below f (second_part r) s → Below f r s

module _ (f : Field) where
  -- the parts of what is below are below
  first_below : (r s : Rect) → IsCut f s → Below f r s → Below f r (first_part s)
  first_below r s cut Here = InFirst cut Here
  first_below r s cut (InFirst c b) = InFirst c (first_below (first_part r) s cut b)
  first_below r s cut (InSecond c b) = InSecond c (first_below (second_part r) s cut b)

  second_below : (r s : Rect) → IsCut f s → Below f r s → Below f r (second_part s)
  second_below r s cut Here = InSecond cut Here
  second_below r s cut (InFirst c b) = InFirst c (second_below (first_part r) s cut b)
  second_below r s cut (InSecond c b) = InSecond c (second_below (second_part r) s cut b)

  -- each reached rectangle is below that of all cells
  all_below : (r : Rect) → IsReached f r → Below f (all_cells f) r
  all_below r Whole = Here
  all_below r (First {r = t} h cut) = first_below (all_cells f) t cut (all_below t h)
  all_below r (Second {r = t} h cut) = second_below (all_cells f) t cut (all_below t h)

  module _ (i j : ℕ) where
    abbrev Has : Rect → Type 0
    Has r = has_cell r i j ≡ true

    -- a rectangle has the cells of what is below it
    above_has : (r s : Rect) → Below f r s → Has s → Has r
    above_has r s Here h = h
    above_has r s (InFirst c b) h = first_inside r i j (above_has (first_part r) s b h)
    above_has r s (InSecond c b) h = second_inside r i j (above_has (second_part r) s b h)

    abbrev Either : Rect → Rect → Type 0
    Either r s = Below f r s ⊎ Below f s r

    -- what is below a rectangle that is cut, and shares a cell with one of its parts, is above that part or below it
    with_first : (t r : Rect) → IsCut f t → Has r → Has (first_part t) → Below f t r → Either r (first_part t)
    with_first t r cut h k Here = inl (InFirst cut Here)
    with_first t r cut h k (InFirst c b) = inr b
    with_first t r cut h k (InSecond c b) = absurd (parts_apart t i j k (above_has (second_part t) r b h))

    with_second : (t r : Rect) → IsCut f t → Has r → Has (second_part t) → Below f t r → Either r (second_part t)
    with_second t r cut h k Here = inl (InSecond cut Here)
    with_second t r cut h k (InFirst c b) = absurd (parts_apart t i j (above_has (first_part t) r b h) k)
    with_second t r cut h k (InSecond c b) = inr b

    -- of two reached rectangles that share a cell one is below the other
    one_below : (r s : Rect) → IsReached f r → IsReached f s → Has r → Has s → Either r s
    one_below r s a Whole h k = inr (all_below r a)
    one_below r s a (First {r = t} b cut) h k = ⊎_elim
        (λ up. inl (first_below r t cut up))
        (λ down. with_first t r cut h k down)
        (one_below r t a b h (first_inside t i j k))
    one_below r s a (Second {r = t} b cut) h k = ⊎_elim
        (λ up. inl (second_below r t cut up))
        (λ down. with_second t r cut h k down)
        (one_below r t a b h (second_inside t i j k))

    -- below a rectangle that isn't cut is itself alone
    alone_below : (r s : Rect) → ¬ (IsCut f r) → Below f r s → r ≡ s
    alone_below r s kept Here = refl
    alone_below r s kept (InFirst c b) = absurd (kept c)
    alone_below r s kept (InSecond c b) = absurd (kept c)

    -- so two blocks by need that share a cell are one
    pub same_block : (r s : Rect) → IsBlock f r → IsBlock f s → Has r → Has s → r ≡ s
    same_block r s a b h k = ⊎_elim
        (λ up. alone_below r s a.kept up)
        (λ down. sym (alone_below s r b.kept down))
        (one_below r s a.reached b.reached h k)
