-- The levels that a charted depth reaches, and the shoaler end of its band.
use Rattle.std.proofs.Common.{◌≡◌, ℕ, zero, suc, ◌+◌, ◌<◌, ℤ, pos, neg_ℤ, ◌<ℤ◌, ◌≤ℤ◌, int_le, Bool, true, false, cond, List, [], ◌∷◌, length, ap, refl, arith, FitsSigned}
use Rattle.std.proofs.lemmas.Int.{ints, by_lt_z, fits_signed_from_abs}
use Rattle.std.proofs.lemmas.List.Sums.{sum_by-cons}
use Rattle.std.specs.Int.{w32}
use Rattle.depth_rounding.specs.Bands.{AreLevels, band_of, level_at, shoaler_end}

abbrev Rises : List ℤ → Type 0
Rises levels = (i k : ℕ) → i < k → k < length levels → level_at levels i <ℤ level_at levels k

is_reached : (l x : ℤ) → l ≤ℤ x → int_le l x ≡ true
is_reached l x h = grind (arith, ints)

is_past : (l x : ℤ) → x <ℤ l → int_le l x ≡ false
is_past l x h = grind (arith, ints)

abbrev flag : Bool → ℕ
flag b = cond b 1 0

one_more : (l x : ℤ) (ls : List ℤ) → band_of (l ∷ ls) x ≡ flag (int_le l x) + band_of ls x
one_more l x ls = sum_by-cons (λ l. cond (int_le l x) 1 0) l ls

-- no level is reached where each is deeper
none_reached : (ls : List ℤ) (x : ℤ) → ((k : ℕ) → k < length ls → x <ℤ level_at ls k) → band_of ls x ≡ 0
none_reached [] x h = refl
none_reached (l ∷ ls) x h =
    let first = ap flag (is_past l x (h 0 (omega arith))) in
    let rest = none_reached ls x (λ k d. h (suc k) (omega arith)) in
    omega (arith, one_more l x ls, first, rest)

-- the levels below a depth's band are no deeper than the depth
pub reached : (ls : List ℤ) (x : ℤ) → Rises ls → (k : ℕ) → k < band_of ls x → level_at ls k ≤ℤ x
reached [] x r k h = absurd (omega arith)
reached (l ∷ ls) x r k h = by_lt_z x l
    (λ (deeper : x <ℤ l). let none = none_reached (l ∷ ls) x (all_deeper deeper) in absurd (omega (arith, none)))
    (λ (up : l ≤ℤ x). by_place up (reached ls x (λ i j d b. r (suc i) (suc j) (omega arith) (omega arith))) k h)
  where
    all_deeper : x <ℤ l → (k : ℕ) → k < length (l ∷ ls) → x <ℤ level_at (l ∷ ls) k
    all_deeper d zero b = d
    all_deeper d (suc k) b = let further : l <ℤ level_at ls k = r 0 (suc k) (omega arith) b in omega (arith, ints, d, further)

    by_place : l ≤ℤ x → ((k : ℕ) → k < band_of ls x → level_at ls k ≤ℤ x) → (k : ℕ) → k < band_of (l ∷ ls) x → level_at (l ∷ ls) k ≤ℤ x
    by_place up rest zero h = up
    by_place up rest (suc k) h = let one = ap flag (is_reached l x up) in rest k (omega (arith, one_more l x ls, one))

-- the shoaler end of a depth's band is no deeper than the depth
pub end_no_deeper : (ls : List ℤ) (least x : ℤ) → Rises ls → least ≤ℤ x → shoaler_end ls least (band_of ls x) ≤ℤ x
end_no_deeper ls least x r low = go (band_of ls x) refl
  where
    go : (b : ℕ) → band_of ls x ≡ b → shoaler_end ls least b ≤ℤ x
    go zero e = low
    go (suc k) e = reached ls x r k (omega (arith, e))

-- and fits 32 bits
small_fits : (z : ℤ) → neg_ℤ (pos 120000) ≤ℤ z → z ≤ℤ pos 120000 → FitsSigned w32 z
small_fits z above below = fits_signed_from_abs w32 z (omega (arith, ints, above, below))

pub end_fits : (ls : List ℤ) (least : ℤ) (b : ℕ) → AreLevels ls → b < length ls + 1 → neg_ℤ (pos 120000) ≤ℤ least → least ≤ℤ pos 120000 → FitsSigned w32 (shoaler_end ls least b)
end_fits ls least zero h l above below = small_fits least above below
end_fits ls least (suc k) h l above below =
    let a = h.above k (omega arith) in
    let b = h.below k (omega arith) in
    small_fits (level_at ls k) (omega (arith, ints, a)) (omega (arith, ints, b))
