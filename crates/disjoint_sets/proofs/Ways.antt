use Rattle.std.proofs.Common.{◌≡◌, ℕ, zero, suc, ◌<◌, ◌≤◌, List, length, slice_index, refl, sym, ◌∙◌, subst, ◌⊎◌, inl, inr, arith}
use Rattle.std.proofs.lemmas.Bool.{cases_eq}
use Rattle.disjoint_sets.specs.Sets.{IsForest, Leads, IsTogether}
use Rattle.disjoint_sets.specs.Sets.Leads.{At, Up}

-- what an item leads to is a root
pub root_is_root : (parents : List ℕ) (p r : ℕ) → Leads parents p r → (r < length parents) × (slice_index parents r ≡ r)
root_is_root parents p r (At l e) = (l, e)
root_is_root parents p r (Up l f h) = root_is_root parents (slice_index parents p) r h

-- an item's root isn't above the item
pub root_below : (parents : List ℕ) (p r : ℕ) → Leads parents p r → r ≤ p
root_below parents p r (At l e) = omega arith
root_below parents p r (Up l f h) = omega (arith, f, root_below parents (slice_index parents p) r h)

-- what leads somewhere is an item
pub start_inside : (parents : List ℕ) (p r : ℕ) → Leads parents p r → p < length parents
start_inside parents p r (At l e) = l
start_inside parents p r (Up l f h) = l

-- an item leads to one root only
pub way_unique : (parents : List ℕ) (p r s : ℕ) → Leads parents p r → Leads parents p s → r ≡ s
way_unique parents p r s (At l e) (At m d) = refl
way_unique parents p r s (At l e) (Up m f k) = absurd (omega (arith, e, f))
way_unique parents p r s (Up l f h) (At m d) = absurd (omega (arith, d, f))
way_unique parents p r s (Up l f h) (Up m g k) = way_unique parents (slice_index parents p) r s h k

-- where an item's parent leads, the item leads
pub one_up : (parents : List ℕ) → IsForest parents → (p r : ℕ) → p < length parents → Leads parents (slice_index parents p) r → Leads parents p r
one_up parents f p r l h = go (cases_eq (slice_index parents p) p)
  where
    go : (slice_index parents p ≡ p) ⊎ (slice_index parents p ≡ p → ⊥) → Leads parents p r
    go (inl e) = subst (λ z. Leads parents z r) e h
    go (inr d) = Up l (omega (arith, f.falls p l, d)) h

-- where an item leads, its parent leads
pub one_down : (parents : List ℕ) (p r : ℕ) → Leads parents p r → Leads parents (slice_index parents p) r
one_down parents p r (At l e) = subst (λ z. Leads parents z p) (sym e) (At l e)
one_down parents p r (Up l f h) = h

-- an item leads to a root if all items below it do
way_from_below : (parents : List ℕ) → IsForest parents → (p : ℕ) → p < length parents → ((q : ℕ) → q < p → q < length parents → (r : ℕ) × Leads parents q r) → (r : ℕ) × Leads parents p r
way_from_below parents f p l before = go (cases_eq (slice_index parents p) p)
  where
    go : (slice_index parents p ≡ p) ⊎ (slice_index parents p ≡ p → ⊥) → (r : ℕ) × Leads parents p r
    go (inl e) = (p, At l e)
    go (inr d) =
        let low : slice_index parents p < p = omega (arith, f.falls p l, d) in
        let w = before (slice_index parents p) low (omega (arith, low, l)) in
        (w.0, Up l low w.1)

-- the items below n lead to roots
ways_below : (parents : List ℕ) → IsForest parents → (n p : ℕ) → p < n → p < length parents → (r : ℕ) × Leads parents p r
ways_below parents f zero p m l = absurd (omega (arith, m))
ways_below parents f (suc n) p m l = way_from_below parents f p l (λ q h k. ways_below parents f n q (omega (arith, h, m)) k)

-- each item leads to a root
pub way_exists : (parents : List ℕ) → IsForest parents → (p : ℕ) → p < length parents → (r : ℕ) × Leads parents p r
way_exists parents f p l = ways_below parents f (suc p) p (omega arith) l

-- a set is one from the first item to the third
pub together_goes_on : (parents : List ℕ) (p q r : ℕ) → IsTogether parents p q → IsTogether parents q r → IsTogether parents p r
together_goes_on parents p q r h k =
    (h.0, h.1, subst (λ z. Leads parents r z) (sym (way_unique parents q h.0 k.0 h.2 k.1)) k.2)

-- two items of one set are so both ways
pub together_back : (parents : List ℕ) (p q : ℕ) → IsTogether parents p q → IsTogether parents q p
together_back parents p q h = (h.0, h.2, h.1)

-- an item is of its own set
pub together_self : (parents : List ℕ) → IsForest parents → (p : ℕ) → p < length parents → IsTogether parents p p
together_self parents f p l = let w = way_exists parents f p l in (w.0, w.1, w.1)

-- where each item is its own parent an item leads only to itself
leads_to_itself : (parents : List ℕ) → ((p : ℕ) → p < length parents → slice_index parents p ≡ p) → (p r : ℕ) → Leads parents p r → p ≡ r
leads_to_itself parents own p r (At l e) = refl
leads_to_itself parents own p r (Up l f h) = absurd (omega (arith, own p l, f))

-- where each item is its own parent no two are of one set
pub together_of_singles : (parents : List ℕ) (n : ℕ) → length parents ≡ n → ((p : ℕ) → p < n → slice_index parents p ≡ p) → (p q : ℕ) → IsTogether parents p q → p ≡ q
together_of_singles parents n each own p q h =
    let own' : (p : ℕ) → p < length parents → slice_index parents p ≡ p = λ p l. own p (omega (arith, l, each)) in
    leads_to_itself parents own' p h.0 h.1 ∙ sym (leads_to_itself parents own' q h.0 h.2)
