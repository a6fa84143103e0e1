-- Places that get a number.
use Rattle.std.proofs.Common.{◌≡◌, ◌≢◌, ℕ, ◌+◌, ◌*◌, ◌<◌, ◌≤◌, ◌⊎◌, ⊎_elim, Bool, true, false, cond, List, length, get_or, set, refl, sym, ap, ◌∙◌, subst, arith, mul-le-mul}
use Rattle.std.proofs.lemmas.Bool.Decides.{nat_tests}
use Rattle.std.proofs.lemmas.List.{get_or-set_same, get_or-set_other}
use Rattle.mesh_definitions.specs.Mesh.{has_cell}
use Rattle.mesh_definitions.specs.declared.Rect.{Rect}
use Rattle.tri_mesh.specs.Cells.{is_between, Fills, Renumbers}

between_here : (start at : ℕ) → start ≤ at → is_between start (at + 1) at ≡ true
between_here start at h = grind (arith, nat_tests)

between_not : (start at k : ℕ) → k ≢ at → is_between start (at + 1) k ≡ is_between start at k
between_not start at k h = grind (arith, nat_tests)

same_or_other : (k at : ℕ) → (k ≡ at) ⊎ (k ≢ at)
same_or_other k at = grind arith

none_between : (start k : ℕ) → is_between start start k ≡ false
none_between start k = grind (arith, nat_tests)

pub fills_none : (old : List ℕ) (start number : ℕ) → Fills old start start number old
fills_none old start number k = ap (λ b. cond b number (get_or old k 0)) (sym (none_between start k))

pub fills_more : (old new : List ℕ) (start at number : ℕ) → at < length new → start ≤ at → Fills old start at number new → Fills old start (at + 1) number (set new at number)
fills_more old new start at number h le f k = ⊎_elim here there (same_or_other k at)
  where
    here : k ≡ at → get_or (set new at number) k 0 ≡ cond (is_between start (at + 1) k) number (get_or old k 0)
    here e = subst (λ i. get_or (set new at number) i 0 ≡ cond (is_between start (at + 1) i) number (get_or old i 0)) (sym e)
        (get_or-set_same new at number 0 h ∙ ap (λ b. cond b number (get_or old at 0)) (sym (between_here start at le)))

    there : k ≢ at → get_or (set new at number) k 0 ≡ cond (is_between start (at + 1) k) number (get_or old k 0)
    there n = get_or-set_other new at k number 0 n ∙ (f k ∙ ap (λ b. cond b number (get_or old k 0)) (sym (between_not start at k n)))

-- the first rows of a rectangle
abbrev pub front : Rect → ℕ → Rect
front r n = record { row = r.row; col = r.col; rows = n; cols = r.cols }

order : (i k : ℕ) → (i < k) ⊎ ((i ≡ k) ⊎ (k < i))
order i k = grind arith

at_row : (m row c w j : ℕ) → is_between (row * m + c) (row * m + c + w) (row * m + j) ≡ is_between c (c + w) j
at_row m row c w j = grind (arith, nat_tests)

before_row : (m row c w i j : ℕ) → i < row → j < m → is_between (row * m + c) (row * m + c + w) (i * m + j) ≡ false
before_row m row c w i j h l = let p : i + 1 ≤ row = omega (arith, h) in let q : m ≤ m = omega arith in let k : (i + 1) * m ≤ row * m = mul-le-mul p q in by (row * m) (i * m) (omega (arith, k, l))
  where
    by : (p q : ℕ) → q + j < p → is_between (p + c) (p + c + w) (q + j) ≡ false
    by p q h = grind (arith, nat_tests)

after_row : (m row c w i j : ℕ) → row < i → c + w ≤ m → is_between (row * m + c) (row * m + c + w) (i * m + j) ≡ false
after_row m row c w i j h l = let p : row + 1 ≤ i = omega (arith, h) in let q : m ≤ m = omega arith in let k : (row + 1) * m ≤ i * m = mul-le-mul p q in by (row * m) (i * m) (omega (arith, k, l))
  where
    by : (p q : ℕ) → p + c + w ≤ q → is_between (p + c) (p + c + w) (q + j) ≡ false
    by p q h = grind (arith, nat_tests)

module _ (r : Rect) (m n : ℕ) (east : r.col + r.cols ≤ m) where
  -- a row more
  cells_more : (row i j : ℕ) → row ≡ r.row + n → j < m → (b : Bool) → is_between (row * m + r.col) (row * m + r.col + r.cols) (i * m + j) ≡ b → has_cell (front r (n + 1)) i j ≡ cond b true (has_cell (front r n) i j)
  cells_more row i j e l b h = ⊎_elim
      (λ k. let f : b ≡ false = sym h ∙ before_row m row r.col r.cols i j k l in rw f (north i j (subst (λ x. i < x) e k)))
      (⊎_elim
      (λ k. let f : b ≡ is_between r.col (r.col + r.cols) j = sym h ∙ (ap (λ x. is_between (row * m + r.col) (row * m + r.col + r.cols) (x * m + j)) k ∙ at_row m row r.col r.cols j) in rw f (here i j (k ∙ e)))
      (λ k. let f : b ≡ false = sym h ∙ after_row m row r.col r.cols i j k east in rw f (south i j (subst (λ x. x < i) e k))))
      (order i row)
    where
      north : (i j : ℕ) → i < r.row + n → has_cell (front r (n + 1)) i j ≡ has_cell (front r n) i j
      north i j h = grind (arith, nat_tests)

      south : (i j : ℕ) → r.row + n < i → has_cell (front r (n + 1)) i j ≡ has_cell (front r n) i j
      south i j h = grind (arith, nat_tests)

      here : (i j : ℕ) → i ≡ r.row + n → has_cell (front r (n + 1)) i j ≡ cond (is_between r.col (r.col + r.cols) j) true (has_cell (front r n) i j)
      here i j h = grind (arith, nat_tests)

  pub renumbers_more : (row number : ℕ) (old now new : List ℕ) → row ≡ r.row + n → Renumbers old m (front r n) number now → Fills now (row * m + r.col) (row * m + r.col + r.cols) number new → Renumbers old m (front r (n + 1)) number new
  renumbers_more row number old now new e f g i j l =
      by (is_between (row * m + r.col) (row * m + r.col + r.cols) (i * m + j)) refl
    where
      by : (b : Bool) → is_between (row * m + r.col) (row * m + r.col + r.cols) (i * m + j) ≡ b → get_or new (i * m + j) 0 ≡ cond (has_cell (front r (n + 1)) i j) number (get_or old (i * m + j) 0)
      by true h = g (i * m + j) ∙ (ap (λ b. cond b number (get_or now (i * m + j) 0)) h ∙ ap (λ b. cond b number (get_or old (i * m + j) 0)) (sym (cells_more row i j e l true h)))
      by false h = g (i * m + j) ∙ (ap (λ b. cond b number (get_or now (i * m + j) 0)) h ∙ (f i j l ∙ ap (λ b. cond b number (get_or old (i * m + j) 0)) (sym (cells_more row i j e l false h))))

pub renumbers_none : (r : Rect) (m number : ℕ) (old : List ℕ) → Renumbers old m (front r 0) number old
renumbers_none r m number old i j l = ap (λ b. cond b number (get_or old (i * m + j) 0)) (sym (none r i j))
  where
    none : (r : Rect) (i j : ℕ) → has_cell (front r 0) i j ≡ false
    none r i j = grind (arith, nat_tests)
