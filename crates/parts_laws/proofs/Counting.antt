-- Records that are numbered from 1 by their places.
use Rattle.std.proofs.Common.{◌≡◌, ◌≢◌, ℕ, zero, suc, ◌+◌, ◌<◌, ◌≤◌, cond, true, eqb, Some, List, [], ◌∷◌, map, length, get_or, ap, ◌∙◌, ⊎_elim, arith}
use Rattle.std.specs.List.{AllPairs, find, range_with_len}
use Rattle.std.proofs.lemmas.Bool.{cases_eq, eq-eqb, ne_eqb}
use Rattle.std.proofs.lemmas.List.{get_or-map, length-map}
use Rattle.std.proofs.lemmas.List.Folds.{list_any_at}
use Rattle.std.proofs.lemmas.List.FromFn.{get_or-map-range_with_len, length-map-range_with_len}
use Rattle.chart_model.specs.Numbers.{has}

-- the number of each record, which f reads, is its place counted from 1
pub record CountsUp {X : Type 0} (f : X → ℕ) (xs : List X) : Type 0 where
  pub each : (k : ℕ) (d : X) → k < length xs → f (get_or xs k d) ≡ k + 1

-- records that are made place by place, each with its number
pub made_count : {X : Type 0} (f : X → ℕ) (g : ℕ → X) (n : ℕ) → ((k : ℕ) → f (g k) ≡ k + 1) → CountsUp f (map g (range_with_len 0 n))
made_count f g n h = record { each = λ k d l. ap f (get_or-map-range_with_len g 0 n k k d (omega (arith, length-map-range_with_len g 0 n)) (omega arith)) ∙ h k }

number_at : {X : Type 0} (f : X → ℕ) (xs : List X) → CountsUp f xs → (k d : ℕ) → k < length xs → get_or (map f xs) k d ≡ k + 1
number_at f [] n k d l = absurd (omega arith)
number_at f (x ∷ xs) n k d l = get_or-map f (x ∷ xs) k x d l ∙ n.each k x l

module _ {X : Type 0} (f : X → ℕ) (xs : List X) (n : CountsUp f xs) where
  pub numbers_once : AllPairs ◌≢◌ (map f xs)
  numbers_once i j d b l e =
      let w : j < length xs = omega (arith, length-map xs f) in
      let p = number_at f xs n i d (omega arith) in
      let q = number_at f xs n j d w in
      omega (arith, p, q, e)

  pub number_stands : (k : ℕ) → k < length xs → has (map f xs) (k + 1) ≡ true
  number_stands k l = list_any_at (λ m. eqb m (k + 1)) (map f xs) k 0 (omega (arith, length-map xs f)) (eq-eqb _ _ (number_at f xs n k 0 l))

-- ---- a search by number

-- among records that are numbered from 1 by their places the one with a number is found
found_from : {X : Type 0} (number : X → ℕ) (make : ℕ → X) (a n k : ℕ) → ((i : ℕ) → number (make i) ≡ i + 1) → a ≤ k → k < a + n → find (λ x. eqb (number x) (k + 1)) (map make (range_with_len a n)) ≡ Some (make k)
found_from number make a zero k h low high = absurd (omega arith)
found_from number make a (suc n) k h low high = ⊎_elim
    (λ (e : a ≡ k). let yes : number (make a) ≡ k + 1 = h a ∙ ap (λ i. i + 1) e in
    ap (λ b. cond b (Some (make a)) (find (λ x. eqb (number x) (k + 1)) (map make (range_with_len (a + 1) n)))) (eq-eqb (number (make a)) (k + 1) yes) ∙ ap (λ i. Some (make i)) e)
    (λ (e : a ≢ k). let no : number (make a) ≢ k + 1 = λ f. let one = h a in e (omega (arith, f, one)) in
    ap (λ b. cond b (Some (make a)) (find (λ x. eqb (number x) (k + 1)) (map make (range_with_len (a + 1) n)))) (ne_eqb (number (make a)) (k + 1) no) ∙ found_from number make (a + 1) n k h (omega (arith, low, e)) (omega arith))
    (cases_eq a k)

pub found_place : {X : Type 0} (number : X → ℕ) (make : ℕ → X) (xs : List X) (n k : ℕ) → ((i : ℕ) → number (make i) ≡ i + 1) → xs ≡ map make (range_with_len 0 n) → k < n → find (λ x. eqb (number x) (k + 1)) xs ≡ Some (make k)
found_place number make xs n k h e l = ap (find (λ x. eqb (number x) (k + 1))) e ∙ found_from number make 0 n k h (omega arith) (omega arith)
