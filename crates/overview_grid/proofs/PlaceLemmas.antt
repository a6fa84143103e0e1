-- Lemmas on the rows and columns of an overview.
use Rattle.std.proofs.Common.{◌≡◌, ◌∙◌, ℕ, ◌+◌, ◌-◌, ◌*◌, ◌/◌, ◌<◌, ◌≤◌, ◌⊎◌, ⊎_elim, ℤ, pos, neg_ℤ, ◌≤ℤ◌, ◌<ℤ◌, List, [], ◌∷◌, ◌++◌, length, sym, ap, subst, subst₂, arith, mul-le-mul}
use Rattle.std.proofs.Math.Nat.{div-mul-le_self, div-le_self, mul_comm, mul-lt-mul_of_pos_left}
use Rattle.std.proofs.lemmas.Nat.{le-div}
use Rattle.std.proofs.lemmas.Grind.{common_steps}
use Rattle.std.specs.Prelude.{int_rem}
use Rattle.depth_grid.specs.Grid.{place, ArePlaces, Rises, Falls}
use Rattle.overview_grid.specs.Overview.{coarse_count, AreCoarsePlaces}

-- the row or column of an overview is one of the fine grid
pub coarse_inside : (count factor k : ℕ) → 1 ≤ count → k < coarse_count count factor → factor * k < count
coarse_inside count factor k some h =
    let a : factor * k ≤ factor * ((count - 1) / factor) = mul-le-mul (same factor) (last k ((count - 1) / factor) h) in
    let b : (count - 1) / factor * factor ≤ count - 1 = div-mul-le_self (count - 1) factor in
    let e : factor * ((count - 1) / factor) ≡ (count - 1) / factor * factor = mul_comm factor ((count - 1) / factor) in
    ends (factor * k) (factor * ((count - 1) / factor)) ((count - 1) / factor * factor) count a b e some
  where
    same : (n : ℕ) → n ≤ n
    same n = omega arith

    last : (k n : ℕ) → k < n + 1 → k ≤ n
    last k n h = omega arith

    ends : (a b c n : ℕ) → a ≤ b → c ≤ n - 1 → b ≡ c → 1 ≤ n → a < n
    ends a b c n h k e s = omega arith

pub coarse_several : (count factor : ℕ) → 1 ≤ factor → factor < count → 2 ≤ coarse_count count factor
coarse_several count factor some h =
    let a : 1 ≤ (count - 1) / factor = le-div 1 (count - 1) factor some (omega arith) in
    more ((count - 1) / factor) a
  where
    more : (n : ℕ) → 1 ≤ n → 2 ≤ n + 1
    more n h = omega arith

pub coarse_few : (count factor : ℕ) → 1 ≤ count → coarse_count count factor ≤ count
coarse_few count factor some = few ((count - 1) / factor) count (div-le_self (count - 1) factor) some
  where
    few : (q n : ℕ) → q ≤ n - 1 → 1 ≤ n → q + 1 ≤ n
    few q n h s = omega arith

further : (factor i k : ℕ) → 1 ≤ factor → i < k → factor * i < factor * k
further factor i k some h = mul-lt-mul_of_pos_left h some

module _ (zs coarse : List ℤ) (factor most : ℕ) (some : 1 ≤ factor) (several : factor < length zs) (h : AreCoarsePlaces zs factor coarse) where
  inside : (k : ℕ) → k < length coarse → factor * k < length zs
  inside k l = coarse_inside (length zs) factor k (omega (arith, several)) (subst (λ n. k < n) h.full l)

  pub coarse_places : ArePlaces zs most → ArePlaces coarse most
  coarse_places p = record {
    several = subst (λ n. 2 ≤ n) (sym h.full) (coarse_several (length zs) factor some several);
    few = let a : length coarse ≤ length zs = subst (λ n. n ≤ length zs) (sym h.full) (coarse_few (length zs) factor (omega (arith, several))) in omega (arith, a, p.few);
    whole = λ k l. subst (λ z. int_rem z (pos 32) ≡ pos 0) (sym (h.each k l)) (p.whole (factor * k) (inside k l));
    above = λ k l. subst (λ z. neg_ℤ (pos most) ≤ℤ z) (sym (h.each k l)) (p.above (factor * k) (inside k l));
    below = λ k l. subst (λ z. z ≤ℤ pos most) (sym (h.each k l)) (p.below (factor * k) (inside k l));
  }

  pub coarse_rises : Rises zs → Rises coarse
  coarse_rises r i k l m = subst₂ (λ a b. a <ℤ b) (sym (h.each i (omega (arith, l, m)))) (sym (h.each k m)) (r (factor * i) (factor * k) (further factor i k some l) (inside k m))

  pub coarse_falls : Falls zs → Falls coarse
  coarse_falls r i k l m = subst₂ (λ a b. a <ℤ b) (sym (h.each k m)) (sym (h.each i (omega (arith, l, m)))) (r (factor * i) (factor * k) (further factor i k some l) (inside k m))

-- one place more
last_or : (k n : ℕ) → k < n + 1 → (k < n) ⊎ (k ≡ n)
last_or k n h = grind arith

old_at : (xs : List ℤ) (y : ℤ) (k : ℕ) → k < length xs → place (xs ++ y ∷ []) k ≡ place xs k
old_at xs y k h = grind (arith, common_steps)

new_at : (xs : List ℤ) (y : ℤ) → place (xs ++ y ∷ []) (length xs) ≡ y
new_at xs y = grind (arith, common_steps)

pub places_more : (zs xs xs' : List ℤ) (factor n : ℕ) (y : ℤ) → length xs ≡ n → y ≡ place zs (factor * n) → xs' ≡ xs ++ y ∷ [] →
    ((k : ℕ) → k < n → place xs k ≡ place zs (factor * k)) → (k : ℕ) → k < n + 1 → place xs' k ≡ place zs (factor * k)
places_more zs xs xs' factor n y full e more each k h = subst (λ ys. place ys k ≡ place zs (factor * k)) (sym more) (⊎_elim
    (λ old. old_at xs y k (omega (arith, full, old)) ∙ each k old)
    (λ new. ap (place (xs ++ y ∷ [])) (new ∙ sym full) ∙ new_at xs y ∙ e ∙ ap (λ i. place zs (factor * i)) (sym new))
    (last_or k n h))

pub longer : (xs xs' : List ℤ) (n : ℕ) (y : ℤ) → length xs ≡ n → xs' ≡ xs ++ y ∷ [] → length xs' ≡ n + 1
longer xs xs' n y h e = grind (arith, common_steps)
