-- Filters of lists, and of lists in another order.
use Rattle.std.proofs.Common.{◌≡◌, ℕ, zero, suc, ◌<◌, ◌≤◌, Bool, true, false, cond, List, [], ◌∷◌, ◌++◌, length, get_or, set, refl, ap, ap₂, sym, ◌∙◌, subst, append_assoc, arith, ⊎_elim}
use Rattle.std.specs.List.{filter, swap}
use Rattle.std.specs.List.Sorted.{IsPermutation}
use Rattle.std.proofs.lemmas.Bool.{cases_lt}
use Rattle.std.proofs.lemmas.List.{set-set, set-get_or, set_comm}
use Rattle.std.proofs.lemmas.List.Sorted.{IsPermutation-refl, IsPermutation-trans, IsPermutation-append_left, IsPermutation-append_right, IsPermutation-append_comm, IsPermutation-keeps}

module _ {X : Type 0} where
  -- two parts in each other's place before a third
  pub past : (ps qs rs : List X) → IsPermutation (ps ++ (qs ++ rs)) (qs ++ (ps ++ rs))
  past ps qs rs = subst (λ t. IsPermutation t (qs ++ (ps ++ rs))) (append_assoc ps qs rs) (subst (IsPermutation ((ps ++ qs) ++ rs)) (append_assoc qs ps rs) (IsPermutation-append_left rs (ps ++ qs) (qs ++ ps) (IsPermutation-append_comm ps qs)))

module _ {X : Type 0} (p : X → Bool) where
  abbrev K : X → List X
  K x = cond (p x) (x ∷ []) []

  head : (x : X) (xs : List X) → filter p (x ∷ xs) ≡ K x ++ filter p xs
  head x xs = by_test (p x)
    where
      by_test : (b : Bool) → cond b (x ∷ filter p xs) (filter p xs) ≡ cond b (x ∷ []) [] ++ filter p xs
      by_test true = refl
      by_test false = refl

  setting : (l : List X) (i : ℕ) (a d : X) → i < length l → IsPermutation (K a ++ filter p l) (K (get_or l i d) ++ filter p (set l i a))
  setting [] i a d h = absurd (omega arith)
  setting (x ∷ xs) zero a d h = subst (λ t. IsPermutation (K a ++ t) (K x ++ filter p (a ∷ xs))) (sym (head x xs)) (subst (λ t. IsPermutation (K a ++ (K x ++ filter p xs)) (K x ++ t)) (sym (head a xs)) (past (K a) (K x) (filter p xs)))
  setting (x ∷ xs) (suc i) a d h =
      let rest = setting xs i a d (omega arith) in
      subst (λ t. IsPermutation (K a ++ t) (K (get_or xs i d) ++ filter p (x ∷ set xs i a))) (sym (head x xs)) (subst (λ t. IsPermutation (K a ++ (K x ++ filter p xs)) (K (get_or xs i d) ++ t)) (sym (head x (set xs i a)))
      (IsPermutation-trans (K a ++ (K x ++ filter p xs)) (K x ++ (K a ++ filter p xs)) (K (get_or xs i d) ++ (K x ++ filter p (set xs i a)))
      (past (K a) (K x) (filter p xs))
      (IsPermutation-trans (K x ++ (K a ++ filter p xs)) (K x ++ (K (get_or xs i d) ++ filter p (set xs i a))) (K (get_or xs i d) ++ (K x ++ filter p (set xs i a)))
      (IsPermutation-append_right (K x) (K a ++ filter p xs) (K (get_or xs i d) ++ filter p (set xs i a)) rest)
      (past (K x) (K (get_or xs i d)) (filter p (set xs i a))))))

  swapping : (l : List X) (i j : ℕ) (d : X) → i < j → j < length l → IsPermutation (filter p l) (filter p (set (set l i (get_or l j d)) j (get_or l i d)))
  swapping [] i j d h k = absurd (omega arith)
  swapping (x ∷ xs) i zero d h k = absurd (omega arith)
  swapping (x ∷ xs) zero (suc j) d h k = subst (λ t. IsPermutation t (filter p (get_or xs j d ∷ set xs j x))) (sym (head x xs)) (subst (IsPermutation (K x ++ filter p xs)) (sym (head (get_or xs j d) (set xs j x))) (setting xs j x d (omega arith)))
  swapping (x ∷ xs) (suc i) (suc j) d h k =
      let new : List X = set (set xs i (get_or xs j d)) j (get_or xs i d) in
      subst (λ t. IsPermutation t (filter p (x ∷ new))) (sym (head x xs)) (subst (IsPermutation (K x ++ filter p xs)) (sym (head x new)) (IsPermutation-append_right (K x) (filter p xs) (filter p new) (swapping xs i j d (omega arith) (omega arith))))

  swapped : (l : List X) (i j : ℕ) (d : X) → i < length l → j < length l → IsPermutation (filter p l) (filter p (set (set l i (get_or l j d)) j (get_or l i d)))
  swapped l i j d h k = ⊎_elim
      (λ (b : i < j). swapping l i j d b k)
      (λ (b : j ≤ i). ⊎_elim
      (λ (c : j < i). subst (λ t. IsPermutation (filter p l) (filter p t)) (set_comm l j i (get_or l i d) (get_or l j d) (λ e. omega arith)) (swapping l j i d c h))
      (λ (c : i ≤ j). let same : i ≡ j = omega arith in subst (λ n. IsPermutation (filter p l) (filter p (set (set l i (get_or l n d)) n (get_or l i d)))) same (subst (λ t. IsPermutation (filter p l) (filter p t)) (sym (set-set l i (get_or l i d) (get_or l i d) ∙ set-get_or l i d)) (IsPermutation-refl (filter p l))))
      (cases_lt j i))
      (cases_lt i j)

  pub permuted : (xs ys : List X) → IsPermutation xs ys → IsPermutation (filter p xs) (filter p ys)
  permuted xs ys h = IsPermutation-keeps xs (λ l. IsPermutation (filter p xs) (filter p l)) (IsPermutation-refl (filter p xs)) step ys h
    where
      step : (l : List X) (i j : ℕ) → i < length l → j < length l → IsPermutation (filter p xs) (filter p l) → IsPermutation (filter p xs) (filter p (swap l i j))
      step [] i j a b h = absurd (omega arith)
      step (d ∷ l) i j a b h = IsPermutation-trans (filter p xs) (filter p (d ∷ l)) (filter p (swap (d ∷ l) i j)) h (swapped (d ∷ l) i j d a b)

-- what passes q passes p
pub twice : {X : Type 0} (p q : X → Bool) → ((x : X) → q x ≡ true → p x ≡ true) → (xs : List X) → filter q (filter p xs) ≡ filter q xs
twice p q h [] = refl
twice p q h (x ∷ xs) = by_test (p x) refl (q x) refl (twice p q h xs)
  where
    by_test : (a : Bool) → p x ≡ a → (b : Bool) → q x ≡ b → filter q (filter p xs) ≡ filter q xs → filter q (cond a (x ∷ filter p xs) (filter p xs)) ≡ cond b (x ∷ filter q xs) (filter q xs)
    by_test true e true f r = ap (λ c. cond c (x ∷ filter q (filter p xs)) (filter q (filter p xs))) f ∙ ap (λ t. x ∷ t) r
    by_test true e false f r = ap (λ c. cond c (x ∷ filter q (filter p xs)) (filter q (filter p xs))) f ∙ r
    by_test false e true f r = let clash : false ≡ true = sym e ∙ h x f in absurd (cc)
    by_test false e false f r = r

pub all_pass : {X : Type 0} (p : X → Bool) (xs : List X) → ((k : ℕ) (d : X) → k < length xs → p (get_or xs k d) ≡ true) → filter p xs ≡ xs
all_pass p [] h = refl
all_pass p (x ∷ xs) h = ap₂ (λ b t. cond b (x ∷ t) t) (h 0 x (omega arith)) (all_pass p xs (λ k d l. h (suc k) d (omega arith)))

pub none_pass : {X : Type 0} (p : X → Bool) (xs : List X) → ((k : ℕ) (d : X) → k < length xs → p (get_or xs k d) ≡ false) → filter p xs ≡ []
none_pass p [] h = refl
none_pass p (x ∷ xs) h = ap₂ (λ b t. cond b (x ∷ t) t) (h 0 x (omega arith)) (none_pass p xs (λ k d l. h (suc k) d (omega arith)))
