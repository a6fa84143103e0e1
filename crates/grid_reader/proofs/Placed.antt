-- Positions that are spread by cells rise, are multiples of 32, and stay within their limit.
use Rattle.std.proofs.Common.{◌≡◌, ℕ, ◌+◌, ◌-◌, ◌*◌, ◌<◌, ◌≤◌, ◌^◌, ℤ, pos, negsuc, neg_ℤ, ◌+ℤ◌, ◌*ℤ◌, ◌≤ℤ◌, ◌<ℤ◌, unsigned_abs, int_rem, nat_le, true, false, List, length, reverse, Bool, refl, sym, ap, subst, ◌∙◌, arith, mul-le-mul}
use Rattle.std.proofs.lemmas.Int.{ints}
use Rattle.std.proofs.lemmas.List.{get_or-reverse, length-reverse}
use Rattle.std.proofs.lemmas.List.FromFn.{get_or-map-range_with_len, length-map-range_with_len}
use Rattle.std.proofs.lemmas.List.Folds.{list_all_at}
use Rattle.std.proofs.lemmas.Bool.Decides.{nat_tests}
use Rattle.std.specs.Int.{int_div_euclid}
use Rattle.depth_grid.specs.Grid.{place, ArePlaces, Rises, Falls}
use Rattle.depth_grid.specs.Snap.{snapped}
use Rattle.grid_reader.specs.Shape.{further, position, positions, is_within, all_within, StepsUp, StepsDown}

-- the quotient of a division, between its bounds
quotient_low : (z : ℤ) (n : ℕ) → 0 < n → (pos n *ℤ int_div_euclid z (pos n)) ≤ℤ z
quotient_low (pos a) n h = omega (arith, ints)
quotient_low (negsuc a) n h = omega (arith, ints)

quotient_high : (z : ℤ) (n : ℕ) → 0 < n → z <ℤ (pos n *ℤ int_div_euclid z (pos n) +ℤ pos n)
quotient_high (pos a) n h = omega (arith, ints)
quotient_high (negsuc a) n h = omega (arith, ints)

-- positions at least 2 * 10^19 apart are at least 96 units apart once snapped
pub apart : (s t : ℤ) → (s +ℤ pos (2 * 10 ^ 19)) ≤ℤ t → (snapped s +ℤ pos 96) ≤ℤ snapped t
apart s t h =
    let n : ℕ = 64 * 10 ^ 17 in
    let half : ℤ = pos (32 * 10 ^ 17) in
    let low = quotient_low (s +ℤ half) n (omega arith) in
    let high = quotient_high (t +ℤ half) n (omega arith) in
    omega (arith, ints)

-- a further place lies a cell or more beyond
steps_on : (origin : ℤ) (m i k : ℕ) → i < k → 10 ^ 19 ≤ m → (further origin (pos m) i +ℤ pos (2 * 10 ^ 19)) ≤ℤ further origin (pos m) k
steps_on origin m i k h big =
    let more : (2 * (i + 1)) * m ≤ (2 * k) * m = mul-le-mul (omega arith) (omega arith) in
    omega (arith, ints)

pub spread_apart : (origin cell : ℤ) (i k : ℕ) → i < k → pos (10 ^ 19) ≤ℤ cell → (position origin cell i +ℤ pos 96) ≤ℤ position origin cell k
spread_apart origin (pos m) i k h big = apart (further origin (pos m) i) (further origin (pos m) k) (steps_on origin m i k h (omega (arith, ints)))
spread_apart origin (negsuc m) i k h big = absurd (omega (arith, ints))

pub at_place : (origin cell : ℤ) (count k : ℕ) → k < count → place (positions origin cell count) k ≡ position origin cell k
at_place origin cell count k h = get_or-map-range_with_len (position origin cell) 0 count k k (pos 0) h (omega arith)

pub positions_count : (origin cell : ℤ) (count : ℕ) → length (positions origin cell count) ≡ count
positions_count origin cell count = length-map-range_with_len (position origin cell) 0 count

pub steps_up : (origin cell : ℤ) (count : ℕ) → pos (10 ^ 19) ≤ℤ cell → StepsUp (positions origin cell count)
steps_up origin cell count big i k h l =
    let size = positions_count origin cell count in
    let one = at_place origin cell count i (omega (arith, size)) in
    let two = at_place origin cell count k (omega (arith, size)) in
    let gap = spread_apart origin cell i k h big in
    omega (arith, ints, one, two, gap)

pub rises : (zs : List ℤ) → StepsUp zs → Rises zs
rises zs h i k l m = omega (arith, ints, h i k l m)

pub falls : (zs : List ℤ) → StepsDown zs → Falls zs
falls zs h i k l m = omega (arith, ints, h i k l m)

whole : (q : ℤ) → int_rem (pos 32 *ℤ q) (pos 32) ≡ pos 0
whole (pos n) = omega (arith, ints)
whole (negsuc n) = omega (arith, ints)

within : (n most : ℕ) → nat_le n most ≡ true → n ≤ most
within n most e = grind (arith, nat_tests)

-- each of them is within the limit
pub each_within : (most : ℕ) (zs : List ℤ) (k : ℕ) → all_within most zs ≡ true → k < length zs → unsigned_abs (place zs k) ≤ most
each_within most zs k all h = tested (is_within most (place zs k)) refl
  where
    tested : (b : Bool) → is_within most (place zs k) ≡ b → unsigned_abs (place zs k) ≤ most
    tested true e = within (unsigned_abs (place zs k)) most e
    tested false e = let none = list_all_at (is_within most) zs k (pos 0) h e in cc

pub are_places : (most : ℕ) (origin cell : ℤ) (count : ℕ) → 2 ≤ count → count ≤ 1025 → all_within most (positions origin cell count) ≡ true → ArePlaces (positions origin cell count) most
are_places most origin cell count several few all =
    let size = positions_count origin cell count in
    record {
      several = omega (arith, size);
      few = omega (arith, size);
      whole = λ k l. ap (λ z. int_rem z (pos 32)) (at_place origin cell count k (omega (arith, size))) ∙ whole (int_div_euclid (further origin cell k +ℤ pos (32 * 10 ^ 17)) (pos (64 * 10 ^ 17)));
      above = λ k l. omega (arith, ints, each_within most (positions origin cell count) k all l);
      below = λ k l. omega (arith, ints, each_within most (positions origin cell count) k all l);
    }

turned : (zs : List ℤ) (k : ℕ) → k < length zs → place (reverse zs) k ≡ place zs (length zs - 1 - k)
turned zs k h = get_or-reverse zs k (pos 0) h

pub reverse_places : (zs : List ℤ) (most : ℕ) → ArePlaces zs most → ArePlaces (reverse zs) most
reverse_places zs most h =
    let size = length-reverse zs in
    record {
      several = omega (arith, size, h.several);
      few = omega (arith, size, h.few);
      whole = λ k l. ap (λ z. int_rem z (pos 32)) (turned zs k (omega (arith, size))) ∙ h.whole (length zs - 1 - k) (omega (arith, size));
      above = λ k l. subst (λ z. neg_ℤ (pos most) ≤ℤ z) (sym (turned zs k (omega (arith, size)))) (h.above (length zs - 1 - k) (omega (arith, size)));
      below = λ k l. subst (λ z. z ≤ℤ pos most) (sym (turned zs k (omega (arith, size)))) (h.below (length zs - 1 - k) (omega (arith, size)));
    }

pub reverse_steps : (zs : List ℤ) → StepsUp zs → StepsDown (reverse zs)
reverse_steps zs h i k l m =
    let size = length-reverse zs in
    let one = turned zs i (omega (arith, size)) in
    let two = turned zs k (omega (arith, size)) in
    let less : (place zs (length zs - 1 - k) +ℤ pos 96) ≤ℤ place zs (length zs - 1 - i) = h (length zs - 1 - k) (length zs - 1 - i) (omega (arith, size)) (omega (arith, size)) in
    omega (arith, ints, one, two, less)
