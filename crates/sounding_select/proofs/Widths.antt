-- Lemmas on the widths of discs.
use Rattle.std.proofs.Common.{◌≡◌, ℕ, ◌+◌, ◌*◌, ◌<◌, ◌≤◌, ◌⊎◌, ⊎_elim, List, [], ◌∷◌, ◌++◌, Bool, true, false, true≢false, length, get_or, nat_lt, sym, ◌∙◌, ap, subst, refl, arith, mul-le-mul, length-append}
use Rattle.std.proofs.lemmas.Bool.Decides.{nat_tests}
use Rattle.std.proofs.lemmas.Grind.{common_steps}
use Rattle.depth_grid.specs.Disc.{near}
use Rattle.sounding_select.specs.Marks.{AreWidths, AreDiscs, disc_has}
use Rattle.sounding_select.specs.Selection.{radius_of}
use Rattle.sounding_select.specs.declared.discs.Disc.{Disc}
use Rattle.depth_grid.specs.declared.disc.Radii.{Radii}

near_is : (aspect radius i j : ℕ) → near aspect radius i j ≡ true → (1000 * i) * (1000 * i) + (aspect * j) * (aspect * j) ≤ radius * radius
near_is aspect radius i j h = grind (arith, nat_tests)

is_near : (aspect radius i j : ℕ) → (1000 * i) * (1000 * i) + (aspect * j) * (aspect * j) ≤ radius * radius → near aspect radius i j ≡ true
is_near aspect radius i j h = grind (arith, nat_tests)

-- what is no further away than a node of the disc is in it too
near_nearer : (aspect radius i j k l : ℕ) → i ≤ k → j ≤ l → near aspect radius k l ≡ true → near aspect radius i j ≡ true
near_nearer aspect radius i j k l h g e =
    let rows : 1000 * i ≤ 1000 * k = omega (arith, h) in
    let cols : aspect * j ≤ aspect * l = mul-le-mul (omega arith) g in
    let a : (1000 * i) * (1000 * i) ≤ (1000 * k) * (1000 * k) = mul-le-mul rows rows in
    let b : (aspect * j) * (aspect * j) ≤ (aspect * l) * (aspect * l) = mul-le-mul cols cols in
    let f = near_is aspect radius k l e in
    is_near aspect radius i j (omega (arith, a, b, f))

not_true : (b : Bool) → ¬ (b ≡ true) → b ≡ false
not_true true h = absurd (h refl)
not_true false h = refl

far_further : (aspect radius i j k l : ℕ) → i ≤ k → j ≤ l → near aspect radius i j ≡ false → near aspect radius k l ≡ false
far_further aspect radius i j k l h g e = not_true (near aspect radius k l) (λ f. true≢false (sym (near_nearer aspect radius i j k l h g f) ∙ e))

lt_or : (j n : ℕ) → ((j < n) × (nat_lt j n ≡ true)) ⊎ ((n ≤ j) × (nat_lt j n ≡ false))
lt_or j n = grind (arith, nat_tests)

-- the widths of the first rows
pub record AreFirst (aspect radius cols n : ℕ) (widths : List ℕ) : Type 0 where
  pub full : length widths ≡ n
  pub some : (down : ℕ) → down < length widths → 1 ≤ get_or widths down 0
  pub narrow : (down : ℕ) → get_or widths down 0 ≤ cols
  pub exact : (down across : ℕ) → down < n → across < cols → near aspect radius down across ≡ disc_has widths down across

old_at : (ws : List ℕ) (w k : ℕ) → k < length ws → get_or (ws ++ w ∷ []) k 0 ≡ get_or ws k 0
old_at ws w k h = grind (arith, common_steps)

new_at : (ws : List ℕ) (w n : ℕ) → length ws ≡ n → get_or (ws ++ w ∷ []) n 0 ≡ w
new_at ws w n h = grind (arith, common_steps)

past : (ws : List ℕ) (k : ℕ) → length ws ≤ k → get_or ws k 0 ≡ 0
past ws k h = grind (arith, common_steps)

place_or : (ws : List ℕ) (w k : ℕ) → ((k < length ws) × (get_or (ws ++ w ∷ []) k 0 ≡ get_or ws k 0)) ⊎ ((k ≡ length ws) × (get_or (ws ++ w ∷ []) k 0 ≡ w)) ⊎ ((length ws + 1 ≤ k) × (get_or (ws ++ w ∷ []) k 0 ≡ 0))
place_or ws w k = grind (arith, common_steps)

module _ (aspect radius cols n : ℕ) (ws : List ℕ) where
  pub first_none : AreFirst aspect radius cols 0 []
  first_none = record { full = refl; some = λ k h. absurd (omega (arith, h)); narrow = λ k. omega arith; exact = λ i j h. absurd (omega (arith, h)) }

  pub first_more : (w : ℕ) → 1 ≤ w → w ≤ cols → ((j : ℕ) → j < cols → near aspect radius n j ≡ nat_lt j w) → AreFirst aspect radius cols n ws → AreFirst aspect radius cols (n + 1) (ws ++ w ∷ [])
  first_more w wide narrow exact f = record {
    full = (let e = f.full in grind (arith, common_steps));
    some = λ k inside. ⊎_elim
        (λ h. subst (λ z. 1 ≤ z) (sym h.1) (f.some k h.0))
        (⊎_elim (λ h. subst (λ z. 1 ≤ z) (sym h.1) wide) (λ h. absurd (omega (arith, inside, h.0, length-append ws (w ∷ [])))))
        (place_or ws w k);
    narrow = λ k. ⊎_elim
        (λ h. subst (λ z. z ≤ cols) (sym h.1) (f.narrow k))
        (⊎_elim (λ h. subst (λ z. z ≤ cols) (sym h.1) narrow) (λ h. subst (λ z. z ≤ cols) (sym h.1) (omega arith)))
        (place_or ws w k);
    exact = λ i j h k. ⊎_elim
        (λ old. f.exact i j old k ∙ ap (λ z. nat_lt j z) (sym (old_at ws w i (omega (arith, old, f.full)))))
        (λ new. subst (λ m. near aspect radius m j ≡ disc_has (ws ++ w ∷ []) m j) (sym new) (exact j k ∙ ap (λ z. nat_lt j z) (sym (new_at ws w n f.full))))
        (last_or i h);
  }
    where
      last_or : (k : ℕ) → k < n + 1 → (k < n) ⊎ (k ≡ n)
      last_or k h = grind arith

  -- a row without the disc's own column is beyond it, and so are all after it
  pub widths_end : (rows : ℕ) → n ≤ rows → ((j : ℕ) → j < cols → n < rows → near aspect radius n 0 ≡ false) → AreFirst aspect radius cols n ws → AreWidths aspect radius rows cols ws
  widths_end rows few beyond f = record {
    few = omega (arith, f.full, few);
    some = f.some;
    narrow = f.narrow;
    exact = λ i j h k. ⊎_elim
        (λ in_it. f.exact i j in_it.0 k)
        (λ out. far_further aspect radius n 0 i j out.0 (omega arith) (beyond j k (omega (arith, out.0, h))) ∙ sym (ap (λ z. nat_lt j z) (past ws i (omega (arith, out.0, f.full))) ∙ never j))
        (lt_or i n);
  }
    where
      never : (j : ℕ) → nat_lt j 0 ≡ false
      never j = grind (arith, nat_tests)

disc_or : (ds : List Disc) (d e : Disc) (n k : ℕ) → length ds ≡ n → k < n + 1 → ((k < n) × (get_or (ds ++ d ∷ []) k e ≡ get_or ds k e)) ⊎ ((k ≡ n) × (get_or (ds ++ d ∷ []) k e ≡ d))
disc_or ds d e n k full h = grind (arith, common_steps)

module _ (radii : Radii) (rows cols : ℕ) where
  pub discs_none : AreDiscs radii rows cols 0 []
  discs_none = record { full = refl; each = λ k d h. absurd (omega (arith, h)) }

  pub discs_more : (n : ℕ) (ds : List Disc) (d : Disc) → AreWidths radii.aspect (radius_of radii n) rows cols d.widths.items → AreDiscs radii rows cols n ds → AreDiscs radii rows cols (n + 1) (ds ++ d ∷ [])
  discs_more n ds d w a = record {
    full = (let e = a.full in grind (arith, common_steps));
    each = λ k e h. ⊎_elim
        (λ old. subst (λ (x : Disc). AreWidths radii.aspect (radius_of radii k) rows cols x.widths.items) (sym old.1) (a.each k e old.0))
        (λ new. subst (λ (x : Disc). AreWidths radii.aspect (radius_of radii k) rows cols x.widths.items) (sym new.1) (subst (λ m. AreWidths radii.aspect (radius_of radii m) rows cols d.widths.items) (sym new.0) w))
        (disc_or ds d e n k a.full h);
  }
