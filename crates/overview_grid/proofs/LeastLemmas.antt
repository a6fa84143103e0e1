-- Lemmas on least depths.
use Rattle.std.proofs.Common.{◌≡◌, ◌∙◌, ℕ, ◌+◌, ◌<◌, ◌≤◌, ◌⊎◌, inl, inr, ⊎_elim, ℤ, ◌≤ℤ◌, List, get_or, Option, Some, None, sym, ap, subst, refl, arith}
use Rattle.std.proofs.lemmas.Int.{ints}
use Rattle.overview_grid.specs.Least.{IsAsShoal, IsLeastOf}
use Rattle.overview_grid.specs.Narrowed.{IsOneOf, StandsBetween}

le_le : (a b c : ℤ) → a ≤ℤ b → b ≤ℤ c → a ≤ℤ c
le_le a b c h k = omega (arith, ints)

pub as_shoal_through : (a b c : Option ℤ) → IsAsShoal a b → IsAsShoal b c → IsAsShoal a c
as_shoal_through None b c h k = tt
as_shoal_through (Some x) None c h k = absurd h
as_shoal_through (Some x) (Some y) None h k = absurd k
as_shoal_through (Some x) (Some y) (Some z) h k = le_le x y z h k

-- equal predicates have equal least ones
pub least_map : (P Q : Option ℤ → Type 0) (r : Option ℤ) → ((d : Option ℤ) → P d → Q d) → ((d : Option ℤ) → Q d → P d) → IsLeastOf P r → IsLeastOf Q r
least_map P Q r f g h = record { stands = f r h.stands; least = λ d q. h.least d (g d q) }

last_or : (k n : ℕ) → k < n + 1 → (k < n) ⊎ (k ≡ n)
last_or k n h = grind arith

-- one depth more
pub between_more : (values : List (Option ℤ)) (first k : ℕ) (least value r : Option ℤ) → first ≤ k → value ≡ get_or values k None →
    IsLeastOf (StandsBetween values first k) least → IsLeastOf (IsOneOf least value) r → IsLeastOf (StandsBetween values first (k + 1)) r
between_more values first k least value r from e h both = record {
  stands = ⊎_elim
      (λ s. subst (StandsBetween values first (k + 1)) (sym s) (record { at = h.stands.at; not_before = h.stands.not_before; before = omega (arith, h.stands.before); stands = h.stands.stands }))
      (λ s. record { at = k; not_before = from; before = omega arith; stands = sym (s ∙ e) })
      both.stands;
  least = λ d s. ⊎_elim
      (λ old. as_shoal_through r least d (both.least least (inl refl)) (h.least d (record { at = s.at; not_before = s.not_before; before = old; stands = s.stands })))
      (λ new. both.least d (inr (sym s.stands ∙ ap (λ i. get_or values i None) new ∙ sym e)))
      (last_or s.at k s.before);
}
