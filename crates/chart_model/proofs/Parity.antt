-- Marks of odd numbers of ends: one more end turns one mark over, and no mark is set where all numbers are even.
use Rattle.std.proofs.Common.{◌≡◌, ◌≢◌, ℕ, ◌+◌, ◌<◌, ◌≤◌, ◌%◌, Bool, true, false, cond, not, List, [], ◌∷◌, ◌++◌, map, length, eqb, ltb, get_or, set, refl, sym, ◌∙◌, ap, ◌⊎◌, ⊎_elim, inl, inr, arith, zero-add, ◌||◌, replicate}
use Rattle.std.proofs.lemmas.Bool.{cases_lt, eq-eqb, eqb-true, eqb-false, lt-ltb, ltb-false, true≢false}
use Rattle.std.proofs.lemmas.Bool.Decides.{eqb_tells, nat_tests}
use Rattle.std.proofs.lemmas.List.{get_or-map, get_or-set_same, get_or-set_other, get_or-replicate, length-map, length-replicate, length-set, same_lists}
use Rattle.std.proofs.lemmas.List.Sums.{passes_at_first, fails_before_first, sum_by-cons, sum_by_push}
use Rattle.std.specs.List.{AllPairs, count_by, list_any, position_or_len}
use Rattle.chart_model.proofs.Indexing.{not_equal}
use Rattle.chart_model.specs.Closed.{is_odd_in}
use Rattle.chart_model.specs.Marks.{turned_at, set_marks}

same_or_not : (a b : ℕ) → (a ≡ b) ⊎ (a ≡ b → ⊥)
same_or_not a b = ⊎_elim (λ (t : (eqb a b ≡ true) × (a ≡ b)). inl t.1) (λ (f : (eqb a b ≡ false) × (a ≢ b)). inr f.1) (eqb_tells a b)

flips : (a : ℕ) → eqb ((a + 1) % 2) 1 ≡ not (eqb (a % 2) 1)
flips a = grind (arith, nat_tests)

pub odd_push_same : (ns : List ℕ) (n k : ℕ) → eqb n k ≡ true → is_odd_in (ns ++ n ∷ []) k ≡ not (is_odd_in ns k)
odd_push_same ns n k e = ap (λ t. eqb (t % 2) 1) (sum_by_push (λ m. cond (eqb m k) 1 0) ns n ∙ ap (λ b. count_by (λ m. eqb m k) ns + cond b 1 0) e) ∙ flips (count_by (λ m. eqb m k) ns)

pub odd_push_other : (ns : List ℕ) (n k : ℕ) → eqb n k ≡ false → is_odd_in (ns ++ n ∷ []) k ≡ is_odd_in ns k
odd_push_other ns n k e = ap (λ t. eqb (t % 2) 1) (sum_by_push (λ m. cond (eqb m k) 1 0) ns n ∙ ap (λ b. count_by (λ m. eqb m k) ns + cond b 1 0) e ∙ omega arith)

-- one more end with the number n turns over the mark at the first place of n, where no number stands twice
module _ (ks ns : List ℕ) (n at : ℕ) (once : AllPairs ◌≢◌ ks) (e : at ≡ position_or_len (λ m. eqb m n) ks) where
  abbrev before : List Bool
  before = map (is_odd_in ns) ks

  here : (k : ℕ) → k < length ks → k ≡ at → eqb n (get_or ks k 0) ≡ true
  here k h f = eq-eqb _ _ (sym (eqb-true _ _ (ap (λ i. eqb (get_or ks i 0) n) (f ∙ e) ∙ passes_at_first (λ m. eqb m n) ks 0 (omega arith))))

  elsewhere : (k : ℕ) → k < length ks → (k ≡ at → ⊥) → n ≡ get_or ks k 0 → ⊥
  elsewhere k h f s = ⊎_elim
      (λ (low : k < at). eqb-false _ _ (fails_before_first (λ m. eqb m n) ks k 0 (omega arith)) (sym s))
      (λ (high : at ≤ k). once at k 0 (omega arith) h (eqb-true _ _ (ap (λ i. eqb (get_or ks i 0) n) e ∙ passes_at_first (λ m. eqb m n) ks 0 (omega arith)) ∙ s))
      (cases_lt k at)

  at_each : (k : ℕ) (d : Bool) → k < length (turned_at before at) → get_or (turned_at before at) k d ≡ get_or (map (is_odd_in (ns ++ n ∷ [])) ks) k d
  at_each k d h =
      let short : length (turned_at before at) ≡ length ks = length-set before at (not (get_or before at false)) ∙ length-map ks (is_odd_in ns) in
      let in_ks : k < length ks = omega arith in
      let long : length before ≡ length ks = length-map ks (is_odd_in ns) in
      let after : get_or (map (is_odd_in (ns ++ n ∷ [])) ks) k d ≡ is_odd_in (ns ++ n ∷ []) (get_or ks k 0) = get_or-map (is_odd_in (ns ++ n ∷ [])) ks k 0 d in_ks in
      ⊎_elim
      (λ (f : k ≡ at).
      let was : get_or before k false ≡ is_odd_in ns (get_or ks k 0) = get_or-map (is_odd_in ns) ks k 0 false in_ks in
      ap (λ i. get_or (set before i (not (get_or before i false))) k d) (sym f) ∙ get_or-set_same before k (not (get_or before k false)) d (omega arith) ∙ ap not was ∙ sym (after ∙ odd_push_same ns n (get_or ks k 0) (here k in_ks f)))
      (λ (f : k ≡ at → ⊥).
      get_or-set_other before at k (not (get_or before at false)) d f ∙ get_or-map (is_odd_in ns) ks k 0 d in_ks ∙ sym (after ∙ odd_push_other ns n (get_or ks k 0) (not_equal _ _ (elsewhere k in_ks f))))
      (same_or_not k at)

  pub turned_marks : turned_at before at ≡ map (is_odd_in (ns ++ n ∷ [])) ks
  turned_marks = same_lists _ _ (length-set before at (not (get_or before at false)) ∙ length-map ks (is_odd_in ns) ∙ sym (length-map ks (is_odd_in (ns ++ n ∷ [])))) at_each

-- ---- how many marks are set

set_marks-cons : (b : Bool) (bs : List Bool) → set_marks (b ∷ bs) ≡ cond b 1 0 + set_marks bs
set_marks-cons b bs = sum_by-cons (λ c. cond c 1 0) b bs

pub none_set : (ks : List ℕ) → set_marks (map (is_odd_in []) ks) ≡ 0
none_set [] = refl
none_set (k ∷ ks) = set_marks-cons false (map (is_odd_in []) ks) ∙ omega (arith, none_set ks)

pub some_set : {X : Type 0} (p : X → Bool) (f : X → ℕ) (q : ℕ → Bool) (xs : List X) → ((x : X) → q (f x) ≡ p x) → ltb 0 (set_marks (map q (map f xs))) ≡ list_any p xs
some_set p f q [] same = refl
some_set p f q (x ∷ xs) same = ap (ltb 0) (set_marks-cons (q (f x)) (map q (map f xs))) ∙ by_test (q (f x)) (p x) (same x) (some_set p f q xs same)
  where
    by_test : (b c : Bool) → b ≡ c → ltb 0 (set_marks (map q (map f xs))) ≡ list_any p xs → ltb 0 (cond b 1 0 + set_marks (map q (map f xs))) ≡ (c || list_any p xs)
    by_test true true s h = lt-ltb _ _ (omega arith)
    by_test true false s h = absurd (true≢false s)
    by_test false true s h = absurd (true≢false (sym s))
    by_test false false s h = ap (ltb 0) (zero-add _) ∙ h

pub all_even : (q : ℕ → Bool) (ks : List ℕ) → ltb 0 (set_marks (map q ks)) ≡ false → map q ks ≡ map (is_odd_in []) ks
all_even q [] e = refl
all_even q (k ∷ ks) e = by_test (q k) (all_even q ks) (sym (ap (ltb 0) (set_marks-cons (q k) (map q ks))) ∙ e)
  where
    by_test : (b : Bool) → (ltb 0 (set_marks (map q ks)) ≡ false → map q ks ≡ map (is_odd_in []) ks) → ltb 0 (cond b 1 0 + set_marks (map q ks)) ≡ false → b ∷ map q ks ≡ false ∷ map (is_odd_in []) ks
    by_test true h f = absurd (let z : 1 + set_marks (map q ks) ≤ 0 = ltb-false _ _ f in omega arith)
    by_test false h f = ap (λ t. false ∷ t) (h (ap (ltb 0) (sym (zero-add _)) ∙ f))

pub unmarked : (ks : List ℕ) (n : ℕ) → length ks ≡ n → replicate n false ≡ map (is_odd_in []) ks
unmarked ks n e = same_lists _ _ (length-replicate n false ∙ sym (length-map ks (is_odd_in []) ∙ e)) (λ k d h. let low : k < n = omega (arith, length-replicate n false) in get_or-replicate n k false d low ∙ sym (get_or-map (is_odd_in []) ks k 0 d (omega arith)))
