-- The positions of the areas that have a point inside, and these areas.
use Rattle.std.proofs.Common.{◌≡◌, ℕ, zero, suc, ◌+◌, ◌<◌, Bool, true, false, cond, Option, Some, None, List, [], ◌∷◌, map, filter, length, get_or, refl, sym, ap, ap₂, subst, ◌∙◌, arith}
use Rattle.std.specs.List.{slice_get}
use Rattle.chart_model.specs.Areas.{areas, is_area}
use Rattle.chart_model.specs.Lines.{area_segments}
use Rattle.chart_model.specs.declared.records.Feature.{Feature}
use Rattle.chart_model.specs.declared.records.Parts.{Parts}
use Rattle.chart_query.specs.Place.{insides, odd_at, positions}
use Rattle.plane_geom.specs.Geom.{odd_of}
use Rattle.plane_geom.specs.declared.Point.{Point}

-- a list has an element at each place
pub element : {X : Type 0} (xs : List X) (k : ℕ) → k < length xs → (x : X) × (get_or xs k x ≡ x)
element [] k l = absurd (omega arith)
element (x ∷ xs) zero l = (x, refl)
element (x ∷ xs) (suc k) l = element xs k (omega arith)

-- ---- a filter that keeps nothing, or one element

-- where no element passes, nothing is kept
pub none_kept : {X : Type 0} (P : X → Bool) (xs : List X) → ((k : ℕ) (d : X) → k < length xs → P (get_or xs k d) ≡ true → ⊥) → filter P xs ≡ []
none_kept P [] never = refl
none_kept P (x ∷ xs) never = by_test (P x) refl (none_kept P xs (λ k d l e. never (suc k) d (omega arith) e))
  where
    by_test : (b : Bool) → P x ≡ b → filter P xs ≡ [] → cond b (x ∷ filter P xs) (filter P xs) ≡ []
    by_test true e rest = absurd (never 0 x (omega arith) e)
    by_test false e rest = rest

-- where the element at one place passes and no other does, it alone is kept
pub one_kept : {X : Type 0} (P : X → Bool) (xs : List X) (at : ℕ) (d : X) → at < length xs → P (get_or xs at d) ≡ true → ((k : ℕ) (z : X) → k < length xs → P (get_or xs k z) ≡ true → k ≡ at) →
    filter P xs ≡ get_or xs at d ∷ []
one_kept P [] at d l e alone = absurd (omega arith)
one_kept P (x ∷ xs) zero d l e alone = ap₂ (λ b ys. cond b (x ∷ ys) ys) e (none_kept P xs (λ k z m g. let h = alone (suc k) z (omega arith) g in omega (arith, h)))
one_kept P (x ∷ xs) (suc at) d l e alone = by_test (P x) refl (one_kept P xs at d (omega arith) e (λ k z m g. let h = alone (suc k) z (omega arith) g in omega (arith, h)))
  where
    by_test : (b : Bool) → P x ≡ b → filter P xs ≡ get_or xs at d ∷ [] → cond b (x ∷ filter P xs) (filter P xs) ≡ get_or xs at d ∷ []
    by_test true g rest = absurd (let h = alone 0 x (omega arith) g in omega (arith, h))
    by_test false g rest = rest

-- ---- positions

-- the positions whose elements pass two tests have the elements that pass both, in the same order
found_are : {X : Type 0} (test P : X → Bool) (look : ℕ → Option X) (odd : ℕ → Bool) (xs : List X) (k : ℕ) → ((i : ℕ) (x : X) → slice_get xs i ≡ Some x → (look (k + i) ≡ Some x) × (odd (k + i) ≡ P x)) →
    map look (filter odd (positions test k xs)) ≡ map Some (filter P (filter test xs))
found_are test P look odd [] k are = refl
found_are {X} test P look odd (x ∷ xs) k are = by_test (test x) (found_are test P look odd xs (k + 1) (λ i y e. moved i y e))
  where
    same : (i : ℕ) → k + suc i ≡ k + 1 + i
    same i = omega arith

    moved : (i : ℕ) (y : X) → slice_get xs i ≡ Some y → (look (k + 1 + i) ≡ Some y) × (odd (k + 1 + i) ≡ P y)
    moved i y e = subst (λ n. (look n ≡ Some y) × (odd n ≡ P y)) (same i) (are (suc i) y e)

    here : (look k ≡ Some x) × (odd k ≡ P x)
    here = let e : k + 0 ≡ k = omega arith in subst (λ n. (look n ≡ Some x) × (odd n ≡ P x)) e (are 0 x refl)

    by_odd : (b : Bool) → map look (filter odd (positions test (k + 1) xs)) ≡ map Some (filter P (filter test xs)) →
        map look (cond b (k ∷ filter odd (positions test (k + 1) xs)) (filter odd (positions test (k + 1) xs))) ≡ map Some (cond b (x ∷ filter P (filter test xs)) (filter P (filter test xs)))
    by_odd true rest = ap₂ (λ o os. o ∷ os) here.0 rest
    by_odd false rest = rest

    by_test : (b : Bool) → map look (filter odd (positions test (k + 1) xs)) ≡ map Some (filter P (filter test xs)) →
        map look (filter odd (cond b (k ∷ positions test (k + 1) xs) (positions test (k + 1) xs))) ≡ map Some (filter P (cond b (x ∷ filter test xs) (filter test xs)))
    by_test true rest = ap (λ b. map look (cond b (k ∷ filter odd (positions test (k + 1) xs)) (filter odd (positions test (k + 1) xs)))) here.1 ∙ by_odd (P x) rest
    by_test false rest = rest

-- positions that have no element are none
no_position : {X : Type 0} (look : ℕ → Option X) (ks : List ℕ) → map look ks ≡ [] → ks ≡ []
no_position look [] e = refl
no_position look (k ∷ ks) e = cc

-- positions that have one element are one
one_position : {X : Type 0} (look : ℕ → Option X) (ks : List ℕ) (x : X) → map look ks ≡ Some x ∷ [] → (k : ℕ) × (ks ≡ k ∷ []) × (look k ≡ Some x)
one_position look [] x e = absurd (cc (e))
one_position look (k ∷ ks) x e =
    let rest : map look ks ≡ [] = cc in
    let here : look k ≡ Some x = cc in
    (k, ap (λ t. k ∷ t) (no_position look ks rest), here)

-- ---- the areas that have a point inside

-- whether an area's segments pass a point's height east of it an odd number of times
abbrev pub is_odd : Parts → Point → Feature → Bool
is_odd c p a = odd_of (area_segments c a) p

-- the test at a position is that of the feature there
odd_found : (c : Parts) (p : Point) (k : ℕ) (a : Feature) → slice_get c.features k ≡ Some a → odd_at c p k ≡ is_odd c p a
odd_found c p k a e = ap (λ (o : Option Feature). elim o as (λ _. Bool) [ None ↦ false | Some f ↦ odd_of (area_segments c f) p ]) e

-- the features at the positions found are the odd areas, in the same order
insides_are : (c : Parts) (p : Point) → map (slice_get c.features) (insides c p) ≡ map Some (filter (is_odd c p) (areas c))
insides_are c p = found_are is_area (is_odd c p) (slice_get c.features) (odd_at c p) c.features 0
    (λ i a e. let n : 0 + i ≡ i = omega arith in subst (λ k. (slice_get c.features k ≡ Some a) × (odd_at c p k ≡ is_odd c p a)) (sym n) (e, odd_found c p i a e))

-- where no area is odd, no position is found
pub inside_none : (c : Parts) (p : Point) → filter (is_odd c p) (areas c) ≡ [] → insides c p ≡ []
inside_none c p e = no_position (slice_get c.features) (insides c p) (insides_are c p ∙ ap (map Some) e)

-- where one area alone is, its position alone is found
pub inside_one : (c : Parts) (p : Point) (a : Feature) → filter (is_odd c p) (areas c) ≡ a ∷ [] → (k : ℕ) × (insides c p ≡ k ∷ []) × (slice_get c.features k ≡ Some a)
inside_one c p a e = one_position (slice_get c.features) (insides c p) a (insides_are c p ∙ ap (map Some) e)
