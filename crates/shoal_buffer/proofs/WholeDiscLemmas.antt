-- Lemmas on what a whole disc gives.
use Rattle.std.proofs.Common.{◌≡◌, ℕ, ℤ, pos, neg_ℤ, ◌≤ℤ◌, ◌+◌, ◌*◌, ◌<◌, ◌≤◌, List, get_or, Option, Some, None, true, sym, ◌∙◌, ap, subst, subst₂, refl, arith}
use Rattle.std.proofs.lemmas.Int.{ints}
use Rattle.std.proofs.lemmas.Nat.{div-mul-add, mod-mul-add}
use Rattle.std.specs.Prelude.{IfSome}
use Rattle.std.specs.Int.{abs_diff}
use Rattle.depth_grid.specs.Disc.{near}
use Rattle.shoal_buffer.specs.declared.picks.Pick.{Pick}
use Rattle.shoal_buffer.specs.declared.picks.Pick.TheVariants.{Least, Greatest}
use Rattle.shoal_buffer.specs.Opening.{StandsNear}
use Rattle.shoal_buffer.specs.Picks.{IsAhead, IsPick, IsPickAt, Holds}
use Rattle.shoal_buffer.specs.Keys.{key_of, value_of, value_where, key_at}
use Rattle.shoal_buffer.specs.Cores.{IsInCore, IsLeastKey}
use Rattle.shoal_buffer.proofs.NearLemmas.{near_rows, near_self}

key_at_most : (pick : Pick) (d : ℤ) → neg_ℤ (pos 2147483648) ≤ℤ d → d ≤ℤ pos 2147483647 → key_of pick (Some d) ≤ℤ pos 2147483647
key_at_most Least d lo hi = hi
key_at_most Greatest d lo hi = omega (arith, ints, lo)

back : (pick : Pick) (x : ℤ) → value_of pick (key_of pick (Some x)) ≡ x
back Least x = refl
back Greatest x = omega (arith, ints)

ahead : (pick : Pick) (m x : ℤ) → m ≤ℤ key_of pick (Some x) → IsAhead pick (value_of pick m) x
ahead Least m x h = h
ahead Greatest m x h = omega (arith, ints, h)

same_number : (a b : ℤ) → a ≤ℤ b → b ≤ℤ a → a ≡ b
same_number a b h k = omega (arith, ints)

-- a core that has grown to the whole disc
pub whole_core : (V : ℕ → ℕ → ℤ) (rows cols aspect radius north south reserve row col away : ℕ) (m : ℤ) → north ≡ away → south ≡ away → reserve ≡ 0 → IsLeastKey V (IsInCore rows cols aspect radius north south reserve row col) m → IsLeastKey V (IsInCore rows cols aspect radius away away 0 row col) m
whole_core V rows cols aspect radius north south reserve row col away m eu ed er h =
    subst (λ z. IsLeastKey V (IsInCore rows cols aspect radius away away z row col) m) er
    (subst (λ z. IsLeastKey V (IsInCore rows cols aspect radius away z reserve row col) m) ed
    (subst (λ z. IsLeastKey V (IsInCore rows cols aspect radius z south reserve row col) m) eu h))

module _ (pick : Pick) (rows cols aspect radius away : ℕ) (values : List (Option ℤ)) (row col : ℕ) (row_in : row < rows) (col_in : col < cols) (whole : (n : ℕ) → 1000 * n ≤ radius → n ≤ away) where
  abbrev Disc : ℤ → Type 0
  Disc = StandsNear rows cols aspect radius (Holds values cols) row col

  abbrev Core : ℕ → ℕ → Type 0
  Core = IsInCore rows cols aspect radius away away 0 row col

  plus_none : (n : ℕ) → n + 0 ≡ n
  plus_none n = omega arith

  in_core : (i j : ℕ) → i < rows → j < cols → near aspect radius (abs_diff i row) (abs_diff j col) ≡ true → Core i j
  in_core i j h k is =
      let far = whole (abs_diff i row) (near_rows aspect radius (abs_diff i row) (abs_diff j col) is) in
      record {
        row_in = h;
        col_in = k;
        to_north = omega (arith, far);
        to_south = omega (arith, far);
        across = omega (arith, k, col_in);
        is_near = subst (λ q. near aspect radius (abs_diff i row) q ≡ true) (sym (plus_none (abs_diff j col))) is;
      }

  -- the least key is the one of some node with a value
  stands : (m d : ℤ) (i j : ℕ) → Core i j → m ≤ℤ key_of pick (Some d) → key_of pick (Some d) ≤ℤ pos 2147483647 → Holds values cols row col d → (v : Option ℤ) → get_or values (i * cols + j) None ≡ v → m ≡ key_of pick v → Disc (value_of pick m)
  stands m d i j s le top own None e is =
      let same : m ≡ key_of pick (Some d) = same_number m (key_of pick (Some d)) le (subst (λ z. key_of pick (Some d) ≤ℤ z) (sym is) top) in
      let value : value_of pick m ≡ d = ap (value_of pick) same ∙ back pick d in
      record { at_row = row; at_col = col; row_in = row_in; col_in = col_in; is_near = near_self aspect radius row col; stands = own ∙ ap Some (sym value) }
  stands m d i j s le top own (Some x) e is =
      let value : value_of pick m ≡ x = ap (value_of pick) is ∙ back pick x in
      record { at_row = i; at_col = j; row_in = s.row_in; col_in = s.col_in; is_near = subst (λ q. near aspect radius (abs_diff i row) q ≡ true) (plus_none (abs_diff j col)) s.is_near; stands = e ∙ ap Some (sym value) }

  pub picked : (m d : ℤ) → IsLeastKey (key_at pick values cols) Core m → Holds values cols row col d → neg_ℤ (pos 2147483648) ≤ℤ d → d ≤ℤ pos 2147483647 → IsPickAt pick rows cols aspect radius values (row * cols + col) (Some d) (Some (value_of pick m))
  picked m d h own lo hi =
      let le : m ≤ℤ key_of pick (Some d) = subst (λ v. m ≤ℤ key_of pick v) own (h.least row col (in_core row col row_in col_in (near_self aspect radius row col))) in
      let p : IsPick pick Disc (value_of pick m) = record {
        stands = stands m d h.at_row h.at_col h.inside le (key_at_most pick d lo hi) own (get_or values (h.at_row * cols + h.at_col) None) refl h.stands;
        best = λ x s. ahead pick m x (subst (λ v. m ≤ℤ key_of pick v) s.stands (h.least s.at_row s.at_col (in_core s.at_row s.at_col s.row_in s.col_in s.is_near)));
      } in
      (value_of pick m, refl, subst₂ (λ i j. IsPick pick (StandsNear rows cols aspect radius (Holds values cols) i j) (value_of pick m)) (sym (div-mul-add row cols col col_in)) (sym (mod-mul-add row cols col col_in)) p)

  pub picked_where : (m : ℤ) (v r : Option ℤ) → IsLeastKey (key_at pick values cols) Core m → get_or values (row * cols + col) None ≡ v → IfSome v (λ d. (neg_ℤ (pos 2147483648) ≤ℤ d) × (d ≤ℤ pos 2147483647)) → r ≡ value_where pick m v →
      IsPickAt pick rows cols aspect radius values (row * cols + col) v r
  picked_where m None r h own range e = e
  picked_where m (Some d) r h own range e = subst (IsPickAt pick rows cols aspect radius values (row * cols + col) (Some d)) (sym e) (picked m d h own range.0 range.1)
