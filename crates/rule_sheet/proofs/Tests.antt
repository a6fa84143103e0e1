-- What the tests of lists and numbers say.
use Rattle.std.proofs.Common.{◌≡◌, ℕ, zero, suc, ◌+◌, ◌<◌, ℤ, pos, ◌≤ℤ◌, ◌<ℤ◌, Bool, true, false, ◌&&◌, List, [], ◌∷◌, length, get_or, drop, refl, sym, ap, ap₂, ◌∙◌, arith}
use Rattle.std.specs.Prelude.{int_lt, int_le, int_rem, ◌==◌, slice_index_or, All}
use Rattle.std.specs.List.{list_all}
use Rattle.std.specs.Ordering.{int_eq}
use Rattle.std.proofs.lemmas.Bool.{and_parts}
use Rattle.std.proofs.Math.Bool.{and-false}
use Rattle.std.proofs.lemmas.Int.{ints}
use Rattle.std.proofs.lemmas.List.{drop_more}
use Rattle.std.proofs.lemmas.List.Sums.{AllPass-from_list_all}
use Rattle.depth_rounding.specs.Steps.{is_step}
use Rattle.rule_sheet.specs.Rows.{all_between, rises_from, rises, are_multiples, steps_fit}

pub and_true : (a b : Bool) → a ≡ true → b ≡ true → (a && b) ≡ true
and_true true b h k = k
and_true false b h k = h

le-true : (z y : ℤ) → int_le z y ≡ true → z ≤ℤ y
le-true z y h = grind (arith, ints)

true-le : (z y : ℤ) → z ≤ℤ y → int_le z y ≡ true
true-le z y h = grind (arith, ints)

lt-true : (z y : ℤ) → int_lt z y ≡ true → z <ℤ y
lt-true z y h = grind (arith, ints)

true-lt : (z y : ℤ) → z <ℤ y → int_lt z y ≡ true
true-lt z y h = grind (arith, ints)

pub eq-true : (z y : ℤ) → int_eq z y ≡ true → z ≡ y
eq-true z y h = grind (arith, ints)

pub true-eq : (z y : ℤ) → z ≡ y → int_eq z y ≡ true
true-eq z y h = grind (arith, ints)

pub between-all : (low high : ℤ) (zs : List ℤ) → all_between low high zs ≡ true → All (λ z. (low ≤ℤ z) × (z ≤ℤ high)) zs
between-all low high zs h k d l =
    let p = and_parts _ _ (AllPass-from_list_all (λ z. int_le low z && int_le z high) zs h k d l) in
    (le-true _ _ p.0, le-true _ _ p.1)

pub all-between : (low high : ℤ) (zs : List ℤ) → ((k : ℕ) → k < length zs → (low ≤ℤ slice_index_or zs k (pos 0)) × (slice_index_or zs k (pos 0) ≤ℤ high)) → all_between low high zs ≡ true
all-between low high [] h = refl
all-between low high (z ∷ zs) h =
    let first = h zero (omega arith) in
    and_true _ _ (and_true _ _ (true-le _ _ first.0) (true-le _ _ first.1)) (all-between low high zs (λ k l. h (suc k) (omega (arith, l))))

rises_from-above : (z : ℤ) (zs : List ℤ) (k : ℕ) → rises_from z zs ≡ true → k < length zs → z <ℤ slice_index_or zs k (pos 0)
rises_from-above z [] k h l = absurd (omega (arith, l))
rises_from-above z (y ∷ ys) zero h l = lt-true _ _ (and_parts _ _ h).0
rises_from-above z (y ∷ ys) (suc k) h l =
    let first : z <ℤ y = lt-true _ _ (and_parts _ _ h).0 in
    let rest : y <ℤ slice_index_or ys k (pos 0) = rises_from-above y ys k (and_parts (int_lt z y) (rises_from y ys) h).1 (omega (arith, l)) in
    omega (arith, ints)

rises_from-rises : (z : ℤ) (zs : List ℤ) → rises_from z zs ≡ true → rises zs ≡ true
rises_from-rises z [] h = refl
rises_from-rises z (y ∷ ys) h = (and_parts _ _ h).1

pub rises-pairs : (zs : List ℤ) (i k : ℕ) → rises zs ≡ true → i < k → k < length zs → slice_index_or zs i (pos 0) <ℤ slice_index_or zs k (pos 0)
rises-pairs [] i k h m l = absurd (omega (arith, l))
rises-pairs (z ∷ zs) i zero h m l = absurd (omega (arith, m))
rises-pairs (z ∷ zs) zero (suc k) h m l = rises_from-above z zs k h (omega (arith, l))
rises-pairs (z ∷ zs) (suc i) (suc k) h m l = rises-pairs zs i k (rises_from-rises z zs h) (omega (arith, m)) (omega (arith, l))

pub pairs-rise : (zs : List ℤ) → ((i k : ℕ) → i < k → k < length zs → slice_index_or zs i (pos 0) <ℤ slice_index_or zs k (pos 0)) → rises zs ≡ true
pairs-rise [] h = refl
pairs-rise (z ∷ []) h = refl
pairs-rise (z ∷ y ∷ ys) h = and_true _ _ (true-lt _ _ (h zero (suc zero) (omega arith) (omega arith))) (pairs-rise (y ∷ ys) (λ i k m l. h (suc i) (suc k) (omega (arith, m)) (omega (arith, l))))

pub multiples-at : (zs steps : List ℤ) (k : ℕ) → are_multiples zs steps ≡ true → k < length zs → k < length steps → int_rem (slice_index_or zs k (pos 0)) (slice_index_or steps k (pos 0)) ≡ pos 0
multiples-at [] steps k h l m = absurd (omega (arith, l))
multiples-at (z ∷ zs) [] k h l m = absurd (omega (arith, m))
multiples-at (z ∷ zs) (step ∷ steps) zero h l m = eq-true _ _ (and_parts _ _ h).0
multiples-at (z ∷ zs) (step ∷ steps) (suc k) h l m = multiples-at zs steps k (and_parts _ _ h).1 (omega (arith, l)) (omega (arith, m))

pub at-multiples : (zs steps : List ℤ) → ((k : ℕ) → k < length zs → int_rem (slice_index_or zs k (pos 0)) (slice_index_or steps k (pos 0)) ≡ pos 0) → are_multiples zs steps ≡ true
at-multiples [] steps h = refl
at-multiples (z ∷ zs) [] h = refl
at-multiples (z ∷ zs) (step ∷ steps) h = and_true _ _ (true-eq _ _ (h zero (omega arith))) (at-multiples zs steps (λ k l. h (suc k) (omega (arith, l))))

multiples-drop : (zs steps : List ℤ) (k : ℕ) → length steps ≡ length zs + 1 → k < length zs → are_multiples (drop k zs) (drop (k + 1) steps) ≡ (int_eq (int_rem (get_or zs k (pos 0)) (get_or steps (k + 1) (pos 0))) (pos 0) && are_multiples (drop (k + 1) zs) (drop (k + 1 + 1) steps))
multiples-drop zs steps k h l = ap₂ are_multiples (drop_more zs k (pos 0) l) (drop_more steps (k + 1) (pos 0) (omega (arith, h, l)))

-- a depth that is no multiple of its step, after k that are
pub fit-stops : (zs steps : List ℤ) (k : ℕ) → length steps ≡ length zs + 1 → k < length zs → are_multiples (drop k zs) (drop (k + 1) steps) ≡ are_multiples zs (drop 1 steps) → int_eq (int_rem (get_or zs k (pos 0)) (get_or steps (k + 1) (pos 0))) (pos 0) ≡ false → false ≡ steps_fit zs steps
fit-stops zs steps k h l same wrong =
    let rest = ap (λ b. b && are_multiples (drop (k + 1) zs) (drop (k + 1 + 1) steps)) wrong in
    sym (and-false (length steps == length zs + 1)) ∙ ap (λ b. (length steps == length zs + 1) && b) (sym rest ∙ sym (multiples-drop zs steps k h l) ∙ same)

-- one that is
pub fit-goes-on : (zs steps : List ℤ) (k : ℕ) → length steps ≡ length zs + 1 → k < length zs → are_multiples (drop k zs) (drop (k + 1) steps) ≡ are_multiples zs (drop 1 steps) → int_eq (int_rem (get_or zs k (pos 0)) (get_or steps (k + 1) (pos 0))) (pos 0) ≡ true → are_multiples (drop (k + 1) zs) (drop (k + 1 + 1) steps) ≡ are_multiples zs (drop 1 steps)
fit-goes-on zs steps k h l same right = sym (ap (λ b. b && are_multiples (drop (k + 1) zs) (drop (k + 1 + 1) steps)) right) ∙ sym (multiples-drop zs steps k h l) ∙ same

pub step-range : (z : ℤ) → is_step z ≡ true → (pos 1 ≤ℤ z) × (z ≤ℤ pos 100)
step-range z h = (grind (arith, ints), grind (arith, ints))

pub steps-range : (steps : List ℤ) (k : ℕ) (d : ℤ) → list_all is_step steps ≡ true → k < length steps → (pos 1 ≤ℤ get_or steps k d) × (get_or steps k d ≤ℤ pos 100)
steps-range steps k d h l = step-range _ (AllPass-from_list_all is_step steps h k d l)
