-- Lemmas on narrowing.
use Rattle.std.proofs.Common.{◌≡◌, ◌∙◌, ℕ, ◌+◌, ◌-◌, ◌*◌, ◌/◌, ◌%◌, ◌<◌, ◌≤◌, ◌⊎◌, ⊎_elim, ℤ, List, length, get_or, Option, Some, None, sym, ap, subst, subst₂, refl, arith}
use Rattle.std.proofs.lemmas.Nat.{rows, div-mul-add, mod-mul-add, div-add-mod', mod_below}
use Rattle.std.proofs.lemmas.Grind.{common_steps}
use Rattle.std.specs.Int.{abs_diff}
use Rattle.std.specs.Prelude.{Result, Ok, Err, IfOk}
use Rattle.depth_grid.specs.Grid.{GridView, AreDepths}
use Rattle.overview_grid.specs.Least.{IsLeastOf}
use Rattle.overview_grid.specs.Overview.{coarse_count, StandsBeside, AreCoarsePlaces, IsOverview}
use Rattle.overview_grid.specs.Narrowed.{StandsBetween, StandsAlong, AreNarrowed, AreLeastDepths}
use Rattle.overview_grid.proofs.LeastLemmas.{least_map, as_shoal_through}

-- depths between the ends of a neighbourhood in a row
pub along : (values : List (Option ℤ)) (cols factor row col start first past : ℕ) (r : Option ℤ) → start ≡ row * cols → past ≤ cols →
    ((k : ℕ) → k < cols → abs_diff k col ≤ factor → (first ≤ k) × (k < past)) →
    ((k : ℕ) → first ≤ k → k < past → abs_diff k col ≤ factor) →
    IsLeastOf (StandsBetween values (start + first) (start + past)) r → IsLeastOf (StandsAlong values cols factor row col) r
along values cols factor row col start first past r begins ends inside within =
    least_map (StandsBetween values (start + first) (start + past)) (StandsAlong values cols factor row col) r
    (λ d s. let k = s.at - start in
    let at : start + k ≡ s.at = omega (arith, s.not_before) in
    let from : first ≤ k = omega (arith, s.not_before) in
    let before : k < past = omega (arith, s.not_before, s.before) in
    record { at_col = k; col_in = omega (arith, before, ends); cols_away = within k from before; stands = ap (λ i. get_or values i None) (ap (λ z. z + k) (sym begins) ∙ at) ∙ s.stands })
    (λ d s. let w = inside s.at_col s.col_in s.cols_away in
    record { at = start + s.at_col; not_before = omega (arith, w.0); before = omega (arith, w.1); stands = ap (λ z. get_or values (z + s.at_col) None) begins ∙ s.stands })

-- the same, by how the ends are found
pub beside : (values : List (Option ℤ)) (cols factor row col first past : ℕ) (r : Option ℤ) → first ≡ col - factor →
    ((past ≡ cols) × (cols ≤ col + factor)) ⊎ ((past ≡ col + factor + 1) × (col + factor < cols)) →
    IsLeastOf (StandsBetween values (row * cols + first) (row * cols + past)) r → IsLeastOf (StandsAlong values cols factor row col) r
beside values cols factor row col first past r begins ends h =
    along values cols factor row col (row * cols) first past r refl
    (⊎_elim (λ e. omega (arith, e.0)) (λ e. omega (arith, e.0, e.1)) ends)
    (λ k inside away. (omega (arith, begins, away), ⊎_elim (λ e. omega (arith, e.0, inside)) (λ e. omega (arith, e.0, away)) ends))
    (λ k from before. ⊎_elim (λ e. omega (arith, e.0, e.1, begins, from, before)) (λ e. omega (arith, e.0, begins, from, before)) ends)
    h

placed : (col count row n : ℕ) → col < count → row < n → col * n + row < count * n
placed col count row n h k = grind (arith, rows)

-- narrowed values at a column and a row
pub at_place : (values narrowed : List (Option ℤ)) (n cols factor : ℕ) → AreNarrowed values n cols factor narrowed → (row col : ℕ) → row < n → col < coarse_count cols factor →
    IsLeastOf (StandsAlong values cols factor row (factor * col)) (get_or narrowed (col * n + row) None)
at_place values narrowed n cols factor h row col in_row in_col =
    subst₂ (λ i j. IsLeastOf (StandsAlong values cols factor i (factor * j)) (get_or narrowed (col * n + row) None)) (mod-mul-add col n row in_row) (div-mul-add col n row in_row)
    (h.each (col * n + row) (placed col (coarse_count cols factor) row n in_col in_row))

module _ (g : GridView) (factor : ℕ) (narrowed depths : List (Option ℤ))
    (along_rows : AreNarrowed g.depths (length g.ys) (length g.xs) factor narrowed)
    (along_columns : AreNarrowed narrowed (coarse_count (length g.xs) factor) (length g.ys) factor depths) where
  -- narrowed along rows and then along columns, values are the least of their neighbourhoods
  twice_at : (row col : ℕ) → row < coarse_count (length g.ys) factor → col < coarse_count (length g.xs) factor →
      IsLeastOf (StandsBeside g factor (factor * row) (factor * col)) (get_or depths (row * coarse_count (length g.xs) factor + col) None)
  twice_at row col in_row in_col =
      let r = get_or depths (row * coarse_count (length g.xs) factor + col) None in
      let h = at_place narrowed depths (coarse_count (length g.xs) factor) (length g.ys) factor along_columns col row in_col in_row in
      let one : (i : ℕ) → i < length g.ys → IsLeastOf (StandsAlong g.depths (length g.xs) factor i (factor * col)) (get_or narrowed (col * length g.ys + i) None)
      = λ i l. at_place g.depths narrowed (length g.ys) (length g.xs) factor along_rows i col l in_col in
      let t = (one h.stands.at_col h.stands.col_in).stands in
      record {
        stands = record { at_row = h.stands.at_col; at_col = t.at_col; row_in = h.stands.col_in; col_in = t.col_in; rows_away = h.stands.cols_away; cols_away = t.cols_away; stands = t.stands ∙ h.stands.stands };
        least = λ d s. as_shoal_through r (get_or narrowed (col * length g.ys + s.at_row) None) d
            (h.least (get_or narrowed (col * length g.ys + s.at_row) None) (record { at_col = s.at_row; col_in = s.row_in; cols_away = s.rows_away; stands = refl }))
            ((one s.at_row s.row_in).least d (record { at_col = s.at_col; col_in = s.col_in; cols_away = s.cols_away; stands = s.stands }));
      }

  pub twice : AreLeastDepths g factor depths
  twice = record { full = along_columns.full; each = twice_at }

-- narrowing, said of equal values
pub moved : (values values' narrowed : List (Option ℤ)) (n n' cols cols' factor : ℕ) → values ≡ values' → n ≡ n' → cols ≡ cols' → AreNarrowed values n cols factor narrowed → AreNarrowed values' n' cols' factor narrowed
moved values values' narrowed n n' cols cols' factor ev en ec h =
    subst (λ z. AreNarrowed z n' cols' factor narrowed) ev
    (subst (λ z. AreNarrowed values z cols' factor narrowed) en
    (subst (λ z. AreNarrowed values n z factor narrowed) ec h))

past_none : (xs : List (Option ℤ)) (k : ℕ) → length xs ≤ k → get_or xs k None ≡ None
past_none xs k h = grind (arith, common_steps)

in_or_past : (k n : ℕ) → (k < n) ⊎ (n ≤ k)
in_or_past k n = grind arith

pub row_of : (k n cols : ℕ) → 0 < cols → k < n * cols → k / cols < n
row_of k n cols some h = grind (arith, rows)

-- each depth that is the least of a neighbourhood is a depth of the grid
pub least_limited : (g : GridView) (factor : ℕ) (depths : List (Option ℤ)) → AreDepths g.depths → AreLeastDepths g factor depths → AreDepths depths
least_limited g factor depths limited h k d e = ⊎_elim
    (λ l. let cols = coarse_count (length g.xs) factor in
    let some : 0 < cols = omega arith in
    let inside : k < coarse_count (length g.ys) factor * cols = subst (λ n. k < n) h.full l in
    let row : k / cols < coarse_count (length g.ys) factor = row_of k (coarse_count (length g.ys) factor) cols some inside in
    let col : k % cols < cols = mod_below k cols some in
    let s = (h.each (k / cols) (k % cols) row col).stands in
    limited (s.at_row * length g.xs + s.at_col) d (s.stands ∙ ap (λ i. get_or depths i None) (div-add-mod' k cols) ∙ e))
    (λ l. absurd (none_some d (sym (past_none depths k l) ∙ e)))
    (in_or_past k (length depths))
  where
    none_some : (d : ℤ) → None ≡ Some d → ⊥
    none_some d e = grind arith

pub overview_of : (g c : GridView) (factor : ℕ) (xs ys : List ℤ) (depths : List (Option ℤ)) → c.xs ≡ xs → c.ys ≡ ys → c.depths ≡ depths → length c.depths ≡ length c.ys * length c.xs →
    AreCoarsePlaces g.xs factor xs → AreCoarsePlaces g.ys factor ys → AreLeastDepths g factor depths → IsOverview g factor c
overview_of g c factor xs ys depths ex ey ed full hx hy h =
    let columns : AreCoarsePlaces g.xs factor c.xs = subst (AreCoarsePlaces g.xs factor) (sym ex) hx in
    let lines : AreCoarsePlaces g.ys factor c.ys = subst (AreCoarsePlaces g.ys factor) (sym ey) hy in
    record {
      columns = columns;
      rows = lines;
      full = full;
      depths = λ row col in_row in_col. subst₂ (λ ds n. IsLeastOf (StandsBeside g factor (factor * row) (factor * col)) (get_or ds (row * n + col) None)) (sym ed) (sym columns.full)
          (h.each row col (subst (λ n. row < n) lines.full in_row) (subst (λ n. col < n) columns.full in_col));
    }

pub ok_map : {T E : Type 0} (r : Result T E) (P Q : T → Type 0) → ((v : T) → P v → Q v) → IfOk r P → IfOk r Q
ok_map (Ok v) P Q f h = f v h
ok_map (Err e) P Q f h = h
