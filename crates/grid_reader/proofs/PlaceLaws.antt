-- The places of a grid's columns and rows, one by one.
use Rattle.std.proofs.Common.{◌≡◌, ℕ, suc, ◌-◌, ◌^◌, ◌<◌, ◌≤◌, ℤ, pos, negsuc, ◌≤ℤ◌, unsigned_abs, int_le, nat_le, Bool, true, false, ◌&&◌, List, [], ◌∷◌, length, reverse, cond, Option, Some, None, Result, Ok, Err, refl, sym, ap, ap₂, subst, ◌∙◌, arith}
use Rattle.std.proofs.lemmas.Int.{ints}
use Rattle.std.proofs.lemmas.Bool.Decides.{nat_tests}
use Rattle.std.proofs.lemmas.List.{ext_get_or, get_or-reverse}
use Rattle.exact_num.specs.Value.{floor_at, whole_of}
use Rattle.depth_grid.specs.Grid.{place}
use Rattle.grid_reader.specs.declared.fault.GridFault.{GridFault}
use Rattle.grid_reader.specs.declared.fault.GridFault.TheVariants as fault
use Rattle.grid_reader.specs.declared.key.GridKey.{GridKey}
use Rattle.grid_reader.specs.declared.key.GridKey.TheVariants as grid_key
use Rattle.grid_reader.specs.declared.found.Needs.{Needs}
use Rattle.readings.specs.Readings.{◌>>=◌}
use Rattle.grid_reader.specs.Shape.{Lines, side_from, cell_from, doubled, position, positions, is_within, all_within, positions_within, places_of}
use Rattle.readings.proofs.Steps.{bind_ok}
use Rattle.grid_reader.proofs.Placed.{at_place, each_within, positions_count}

-- so many nodes, from 2 to 1,025
pub record IsSide (o : Option ℤ) (nodes : ℕ) : Type 0 where
  pub whole : o ≡ Some (pos nodes)
  pub several : 2 ≤ nodes
  pub few : nodes ≤ 1025

side_is : (key : GridKey) (o : Option ℤ) (n : ℕ) → side_from key o ≡ Ok n → IsSide o n
side_is key None n h = absurd (cc)
side_is key (Some (negsuc z)) n h = absurd (cc)
side_is key (Some (pos z)) n h = tested (nat_le 2 z) (nat_le z 1025) refl refl h
  where
    tested : (a b : Bool) → nat_le 2 z ≡ a → nat_le z 1025 ≡ b → cond (a && b) (Ok z) (Err (fault.Side key)) ≡ Ok n → IsSide (Some (pos z)) n
    tested true true e f h = let same : z ≡ n = cc in subst (IsSide (Some (pos z))) same (record { whole = refl; several = grind (arith, nat_tests); few = grind (arith, nat_tests) })
    tested true false e f h = absurd (cc)
    tested false b e f h = absurd (cc)

side_back : (key : GridKey) (o : Option ℤ) (n : ℕ) → IsSide o n → side_from key o ≡ Ok n
side_back key o n h =
    let several = h.several in
    let few = h.few in
    let low : nat_le 2 n ≡ true = grind (arith, nat_tests) in
    let high : nat_le n 1025 ≡ true = grind (arith, nat_tests) in
    let good : Result ℕ GridFault = Ok n in
    ap (side_from key) h.whole ∙ ap₂ (λ a b. cond (a && b) good (Err (fault.Side key))) low high

-- the cell size, from 10^-5 to 1 degree
pub record IsCell (z cell : ℤ) : Type 0 where
  pub size : z ≡ cell
  pub least : pos (10 ^ 19) ≤ℤ cell
  pub most : cell ≤ℤ pos (10 ^ 24)

cell_is : (z c : ℤ) → cell_from z ≡ Ok c → IsCell z c
cell_is z c h = tested (int_le (pos (10 ^ 19)) z) (int_le z (pos (10 ^ 24))) refl refl h
  where
    tested : (a b : Bool) → int_le (pos (10 ^ 19)) z ≡ a → int_le z (pos (10 ^ 24)) ≡ b → cond (a && b) (Ok z) (Err fault.CellSize) ≡ Ok c → IsCell z c
    tested true true e f h = let same : z ≡ c = cc in subst (IsCell z) same (record { size = refl; least = grind (arith, ints); most = grind (arith, ints) })
    tested true false e f h = absurd (cc)
    tested false b e f h = absurd (cc)

cell_back : (z c : ℤ) → IsCell z c → cell_from z ≡ Ok c
cell_back z c h =
    let least = h.least in
    let most = h.most in
    let low : int_le (pos (10 ^ 19)) c ≡ true = grind (arith, ints) in
    let high : int_le c (pos (10 ^ 24)) ≡ true = grind (arith, ints) in
    let good : Result ℤ GridFault = Ok c in
    ap cell_from h.size ∙ ap₂ (λ a b. cond (a && b) good (Err fault.CellSize)) low high

good_positions : (most : ℕ) (origin cell : ℤ) (count : ℕ) (zs : List ℤ) → positions_within most origin cell count ≡ Ok zs → (positions origin cell count ≡ zs) × (all_within most (positions origin cell count) ≡ true)
good_positions most origin cell count zs h = tested (all_within most (positions origin cell count)) refl h
  where
    tested : (a : Bool) → all_within most (positions origin cell count) ≡ a → cond a (Ok (positions origin cell count)) (Err fault.Position) ≡ Ok zs → (positions origin cell count ≡ zs) × (all_within most (positions origin cell count) ≡ true)
    tested true e h = (cc, e)
    tested false e h = cc

-- so many positions, each at its place and within the limit
pub record AreAt (most : ℕ) (origin cell : ℤ) (count : ℕ) (zs : List ℤ) : Type 0 where
  pub as_many : length zs ≡ count
  pub each : (k : ℕ) → k < count → place zs k ≡ position origin cell k
  pub within : (k : ℕ) → k < count → unsigned_abs (place zs k) ≤ most

are_at : (most : ℕ) (origin cell : ℤ) (count : ℕ) (zs : List ℤ) → positions_within most origin cell count ≡ Ok zs → AreAt most origin cell count zs
are_at most origin cell count zs h =
    let good = good_positions most origin cell count zs h in
    let size = positions_count origin cell count in
    subst (AreAt most origin cell count) good.0 (record {
      as_many = size;
      each = λ k l. at_place origin cell count k l;
      within = λ k l. each_within most (positions origin cell count) k good.1 (omega (arith, size));
    })

all_are : (most : ℕ) (zs : List ℤ) → ((k : ℕ) → k < length zs → unsigned_abs (place zs k) ≤ most) → all_within most zs ≡ true
all_are most [] h = refl
all_are most (z ∷ zs) h =
    let bound = h 0 (omega arith) in
    let first : is_within most z ≡ true = grind (arith, nat_tests) in
    ap₂ (λ a b. a && b) first (all_are most zs (λ k l. h (suc k) (omega arith)))

pub all_at : (most : ℕ) (origin cell : ℤ) (count : ℕ) (zs : List ℤ) → AreAt most origin cell count zs → (zs ≡ positions origin cell count) × (all_within most (positions origin cell count) ≡ true)
all_at most origin cell count zs h =
    let size = positions_count origin cell count in
    let many = h.as_many in
    let same : zs ≡ positions origin cell count = ext_get_or (pos 0) zs (positions origin cell count) (omega arith) (λ k l. h.each k (omega arith) ∙ sym (at_place origin cell count k (omega arith))) in
    (same, ap (all_within most) (sym same) ∙ all_are most zs (λ k l. h.within k (omega arith)))

at_back : (most : ℕ) (origin cell : ℤ) (count : ℕ) (zs : List ℤ) → AreAt most origin cell count zs → positions_within most origin cell count ≡ Ok zs
at_back most origin cell count zs h =
    let all = all_at most origin cell count zs h in
    let good : Result (List ℤ) GridFault = Ok (positions origin cell count) in
    ap (λ a. cond a good (Err fault.Position)) all.1 ∙ ap Ok (sym all.0)

-- the lines that a header's values give
pub record ArePlaced (n : Needs) (cols rows : ℕ) (cell : ℤ) (xs ys : List ℤ) : Type 0 where
  pub cols_are : IsSide (whole_of n.cols) cols
  pub rows_are : IsSide (whole_of n.rows) rows
  pub cell_is : IsCell (floor_at n.cell 24) cell
  pub xs_are : AreAt 1800000000 (doubled n.x cell) cell cols xs
  pub ys_are : AreAt 900000000 (doubled n.y cell) cell rows ys

abbrev with_rows : List ℤ → List ℤ → Result Lines GridFault
with_rows xs ys = Ok (record { xs = xs; ys = reverse ys })

abbrev with_cols : Needs → ℕ → ℤ → List ℤ → Result Lines GridFault
with_cols n rows cell xs = positions_within 900000000 (doubled n.y cell) cell rows >>= (λ ys. with_rows xs ys)

abbrev with_cell : Needs → ℕ → ℕ → ℤ → Result Lines GridFault
with_cell n cols rows cell = positions_within 1800000000 (doubled n.x cell) cell cols >>= (λ xs. with_cols n rows cell xs)

abbrev with_sides : Needs → ℕ → ℕ → Result Lines GridFault
with_sides n cols rows = cell_from (floor_at n.cell 24) >>= (λ cell. with_cell n cols rows cell)

abbrev with_side : Needs → ℕ → Result Lines GridFault
with_side n cols = side_from grid_key.Nrows (whole_of n.rows) >>= (λ rows. with_sides n cols rows)

pub record Lays (n : Needs) (lines : Lines) : Type 0 where
  pub cols : ℕ
  pub rows : ℕ
  pub cell : ℤ
  pub ys : List ℤ
  pub placed : ArePlaced n cols rows cell lines.xs ys
  pub turned : lines.ys ≡ reverse ys

pub lays : (n : Needs) (lines : Lines) → places_of n ≡ Ok lines → Lays n lines
lays n lines h =
    let a = bind_ok (side_from grid_key.Ncols (whole_of n.cols)) (with_side n) lines h in
    let b = bind_ok (side_from grid_key.Nrows (whole_of n.rows)) (with_sides n a.0) lines a.2 in
    let c = bind_ok (cell_from (floor_at n.cell 24)) (with_cell n a.0 b.0) lines b.2 in
    let d = bind_ok (positions_within 1800000000 (doubled n.x c.0) c.0 a.0) (with_cols n b.0 c.0) lines c.2 in
    let e = bind_ok (positions_within 900000000 (doubled n.y c.0) c.0 b.0) (with_rows d.0) lines d.2 in
    let made : Lines = record { xs = d.0; ys = reverse e.0 } in
    let same : made ≡ lines = cc (e.2) in
    subst (Lays n) same (record {
      cols = a.0;
      rows = b.0;
      cell = c.0;
      ys = e.0;
      placed = record {
        cols_are = side_is grid_key.Ncols (whole_of n.cols) a.0 a.1;
        rows_are = side_is grid_key.Nrows (whole_of n.rows) b.0 b.1;
        cell_is = cell_is (floor_at n.cell 24) c.0 c.1;
        xs_are = are_at 1800000000 (doubled n.x c.0) c.0 a.0 d.0 d.1;
        ys_are = are_at 900000000 (doubled n.y c.0) c.0 b.0 e.0 e.1;
      };
      turned = refl {a = reverse e.0};
    })

pub lays_back : (n : Needs) (cols rows : ℕ) (cell : ℤ) (xs ys : List ℤ) → ArePlaced n cols rows cell xs ys → places_of n ≡ Ok (let lines : Lines = record { xs = xs; ys = reverse ys } in lines)
lays_back n cols rows cell xs ys h =
    ap (λ r. r >>= with_side n) (side_back grid_key.Ncols (whole_of n.cols) cols h.cols_are)
    ∙ ap (λ r. r >>= with_sides n cols) (side_back grid_key.Nrows (whole_of n.rows) rows h.rows_are)
    ∙ ap (λ r. r >>= with_cell n cols rows) (cell_back (floor_at n.cell 24) cell h.cell_is)
    ∙ ap (λ r. r >>= with_cols n rows cell) (at_back 1800000000 (doubled n.x cell) cell cols xs h.xs_are)
    ∙ ap (λ r. r >>= with_rows xs) (at_back 900000000 (doubled n.y cell) cell rows ys h.ys_are)

-- places of a list that is turned round
pub turned_place : (zs : List ℤ) (k n : ℕ) → length zs ≡ n → k < n → place (reverse zs) k ≡ place zs (n - 1 - k)
turned_place zs k n e l =
    let inside : k < length zs = omega arith in
    let same : length zs - 1 - k ≡ n - 1 - k = omega arith in
    get_or-reverse zs k (pos 0) inside ∙ ap (place zs) same
