-- Sums and members of ranges and of the places of a rectangle.
use Rattle.std.proofs.Common.{◌≡◌, ◌≢◌, ℕ, zero, suc, ◌+◌, ◌<◌, ◌≤◌, ℤ, pos, ◌+ℤ◌, ◌-ℤ◌, List, [], ◌∷◌, true, false, cond, eqb, refl, ap, ap₂, ◌∙◌, arith, ◌⊎◌, inl, inr, ⊎_elim}
use Rattle.std.proofs.lemmas.Bool.Decides.{nat_tests}
use Rattle.std.proofs.lemmas.Int.{ints}
use Rattle.std.specs.Prelude.{flat_map}
use Rattle.std.specs.List.{range_with_len}
use Rattle.mesh_definitions.specs.Mesh.{each_place}
use Rattle.plane_laws.specs.Borders.{total}
use Rattle.plane_laws.proofs.Members.{In}
use Rattle.plane_laws.proofs.Sums.{total-append}

-- the sum over lists joined end to end
pub total-flat_map : {X Y : Type 0} (g : Y → ℤ) (h : X → List Y) (xs : List X) → total g (flat_map h xs) ≡ total (λ x. total g (h x)) xs
total-flat_map g h [] = refl
total-flat_map g h (x ∷ xs) = total-append g (h x) (flat_map h xs) ∙ ap (λ z. total g (h x) +ℤ z) (total-flat_map g h xs)

-- ---- ranges

pub in_range_low : (a n y : ℕ) → In (range_with_len a n) y → a ≤ y
in_range_low a zero y i = absurd i
in_range_low a (suc n) y i = ⊎_elim (λ e. omega (arith, e)) (λ j. omega (arith, in_range_low (a + 1) n y j)) i

pub in_range_high : (a n y : ℕ) → In (range_with_len a n) y → y < a + n
in_range_high a zero y i = absurd i
in_range_high a (suc n) y i = ⊎_elim (λ e. omega (arith, e)) (λ j. omega (arith, in_range_high (a + 1) n y j)) i

same_or_above : (a y : ℕ) → a ≤ y → (a ≡ y) ⊎ (a + 1 ≤ y)
same_or_above a y h = grind arith

pub in_range : (a n y : ℕ) → a ≤ y → y < a + n → In (range_with_len a n) y
in_range a zero y h l = absurd (omega (arith, h, l))
in_range a (suc n) y h l = ⊎_elim (λ e. inl e) (λ k. inr (in_range (a + 1) n y k (omega (arith, l)))) (same_or_above a y h)

-- a sum over a range of values that are 0 at each of its numbers
pub total_range_zero : (g : ℕ → ℤ) (a n : ℕ) → ((k : ℕ) → a ≤ k → k < a + n → g k ≡ pos 0) → total g (range_with_len a n) ≡ pos 0
total_range_zero g a zero h = refl
total_range_zero g a (suc n) h = ap₂ ◌+ℤ◌ (h a (omega arith) (omega arith)) (total_range_zero g (a + 1) n (λ k l m. h k (omega (arith, l)) (omega (arith, m))))

-- and of values that are 0 but at one number
pub total_range_one : (g : ℕ → ℤ) (y a n : ℕ) → ((k : ℕ) → a ≤ k → k ≢ y → g k ≡ pos 0) → a ≤ y → y < a + n → total g (range_with_len a n) ≡ g y
total_range_one g y a zero h l m = absurd (omega (arith, l, m))
total_range_one g y a (suc n) h l m = ⊎_elim
    (λ e. ap₂ ◌+ℤ◌ (ap g e) (total_range_zero g (a + 1) n (λ k low high. h k (omega (arith, low)) (omega (arith, e, low)))) ∙ zero_right (g y))
    (λ k. ap₂ ◌+ℤ◌ (h a (omega arith) (omega (arith, k))) (total_range_one g y (a + 1) n (λ j low. h j (omega (arith, low))) k (omega (arith, m))) ∙ zero_left (g y))
    (same_or_above a y l)
  where
    zero_right : (z : ℤ) → z +ℤ pos 0 ≡ z
    zero_right z = omega (arith, ints)

    zero_left : (z : ℤ) → pos 0 +ℤ z ≡ z
    zero_left z = omega (arith, ints)

-- of values that are taken at one number alone, which lies in the range or does not
pub total_range_at : (g : ℕ → ℤ) (y a n : ℕ) → a ≤ y → y < a + n → total (λ k. cond (eqb y k) (g k) (pos 0)) (range_with_len a n) ≡ g y
total_range_at g y a n low high =
    total_range_one (λ k. cond (eqb y k) (g k) (pos 0)) y a n (λ k far d. let e : eqb y k ≡ false = grind (arith, nat_tests) in ap (λ b. cond b (g k) (pos 0)) e) low high
    ∙ (let e : eqb y y ≡ true = grind (arith, nat_tests) in ap (λ b. cond b (g y) (pos 0)) e)

pub total_range_off : (g : ℕ → ℤ) (y a n : ℕ) → ((k : ℕ) → a ≤ k → k < a + n → k ≢ y) → total (λ k. cond (eqb y k) (g k) (pos 0)) (range_with_len a n) ≡ pos 0
total_range_off g y a n h =
    total_range_zero (λ k. cond (eqb y k) (g k) (pos 0)) a n (λ k low high. let d = h k low high in let e : eqb y k ≡ false = grind (arith, nat_tests) in ap (λ b. cond b (g k) (pos 0)) e)

-- of differences of neighbours
pub total_range_steps : (g : ℕ → ℤ) (a n : ℕ) → total (λ k. g k -ℤ g (k + 1)) (range_with_len a n) ≡ g a -ℤ g (a + n)
total_range_steps g a zero = let e : g (a + 0) ≡ g a = ap g (omega arith) in omega (arith, ints, e)
total_range_steps g a (suc n) = let e : g (a + 1 + n) ≡ g (a + suc n) = ap g (omega arith) in omega (arith, ints, e, total_range_steps g (a + 1) n)

-- ---- places

-- a sum over what the places of a rectangle have, where all places but (i, j) have none
pub total_places : {X : Type 0} (g : X → ℤ) (make : ℕ → ℕ → List X) (i j row rows col cols : ℕ) →
    ((x y : ℕ) → x ≢ i → total g (make x y) ≡ pos 0) → ((y : ℕ) → y ≢ j → total g (make i y) ≡ pos 0) →
    row ≤ i → i < row + rows → col ≤ j → j < col + cols → total g (each_place row rows col cols make) ≡ total g (make i j)
total_places g make i j row rows col cols off_row off_col north south west east =
    let line = λ (x : ℕ). flat_map (make x) (range_with_len col cols) in
    let of_line : (x : ℕ) → total g (line x) ≡ total (λ y. total g (make x y)) (range_with_len col cols) = λ x. total-flat_map g (make x) (range_with_len col cols) in
    total-flat_map g line (range_with_len row rows)
    ∙ (total_range_one (λ x. total g (line x)) i row rows (λ x far d. of_line x ∙ total_range_zero (λ y. total g (make x y)) col cols (λ y low high. off_row x y d)) north south
    ∙ (of_line i ∙ total_range_one (λ y. total g (make i y)) j col cols (λ y far d. off_col y d) west east))
