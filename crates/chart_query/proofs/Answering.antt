-- Where a point lies is one answer, and it can be computed.
use Rattle.std.proofs.Common.{◌≡◌, ◌≢◌, ◌↔◌, ℕ, Bool, true, false, cond, IsTrue, List, [], ◌∷◌, pos, ◌⊎◌, inl, inr, refl, sym, subst, ◌∙◌, ap, ap₂}
use Rattle.std.proofs.lemmas.Bool.{cases_Bool, false_from_ne_true, false≢true, true≢false}
use Rattle.std.proofs.lemmas.Bool.Decides.{Decides-and, Decides-int_eq}
use Rattle.std.proofs.lemmas.List.Folds.{Any-from_list_any, list_any_at}
use Rattle.std.specs.Bool.{Decides}
use Rattle.std.specs.List.{flat_map, list_any}
use Rattle.chart_model.specs.Areas.{areas}
use Rattle.chart_model.specs.Lines.{area_segments}
use Rattle.chart_model.specs.declared.records.Parts.{Parts}
use Rattle.chart_query.proofs.Members.{on_area, from_area}
use Rattle.chart_query.specs.Answer.{inside, is_on, is_on_area, place_of}
use Rattle.chart_query.specs.Place.{insides, IsOnArea, IsPlace}
use Rattle.chart_query.specs.declared.answer.Place.TheVariants.{Outside, Edge, Areas}
use Rattle.chart_query.specs.declared.answer.Place.{Place}
use Rattle.plane_geom.specs.Geom.{cross_of, is_between, IsOn, OnSome}
use Rattle.plane_geom.specs.declared.Point.{Point}
use Rattle.plane_geom.specs.declared.Seg.{Seg}

true_on : (p : Point) (s : Seg) → is_on p s ≡ true → IsOn s p
true_on p s e = record { line = parts.0; wide = parts.1.0; high = parts.1.1 }
  where
    tells : Decides (is_on p s) ((cross_of s.a s.b p ≡ pos 0) × ((is_between s.a.x s.b.x p.x ≡ true) × (is_between s.a.y s.b.y p.y ≡ true)))
    tells = Decides-and _ _ (Decides-int_eq _ _) (Decides-and _ _ (λ x. x, λ x. x) (λ x. x, λ x. x))

    parts : (cross_of s.a s.b p ≡ pos 0) × ((is_between s.a.x s.b.x p.x ≡ true) × (is_between s.a.y s.b.y p.y ≡ true))
    parts = tells.0 e

on_true : (p : Point) (s : Seg) → IsOn s p → is_on p s ≡ true
on_true p s on = tells.1 (on.line, (on.wide, on.high))
  where
    tells : Decides (is_on p s) ((cross_of s.a s.b p ≡ pos 0) × ((is_between s.a.x s.b.x p.x ≡ true) × (is_between s.a.y s.b.y p.y ≡ true)))
    tells = Decides-and _ _ (Decides-int_eq _ _) (Decides-and _ _ (λ x. x, λ x. x) (λ x. x, λ x. x))

-- what `on_segment` says, computed
pub tests_on : (b : Bool) (p : Point) (s : Seg) → IsTrue b ↔ IsOn s p → b ≡ is_on p s
tests_on true p s h = sym (on_true p s (h.0 refl))
tests_on false p s h = sym (false_from_ne_true (is_on p s) (λ e. absurd (false≢true (h.1 (true_on p s e)))))

on_some : (segs : List Seg) (p : Point) → OnSome segs p → list_any (is_on p) segs ≡ true
on_some segs p h = list_any_at (is_on p) segs h.there.0 h.segment h.there.1 (ap (is_on p) h.there.2 ∙ on_true p h.segment h.on)

some_on : (segs : List Seg) (p : Point) → list_any (is_on p) segs ≡ true → OnSome segs p
some_on segs p e = let a = Any-from_list_any (is_on p) segs e in record { segment = a.1; there = (a.0, a.2, a.3); on = true_on p a.1 a.4 }

on_is_true : (c : Parts) (p : Point) → IsOnArea c p → is_on_area c p ≡ true
on_is_true c p on = on_some _ p (from_area c (flat_map (area_segments c) (areas c)) p refl on)

off_is_false : (c : Parts) (p : Point) → ¬ (IsOnArea c p) → is_on_area c p ≡ false
off_is_false c p off = by_test (is_on_area c p) (λ e. off (on_area c (flat_map (area_segments c) (areas c)) p refl (some_on _ p e)))
  where
    by_test : (b : Bool) → ¬ (b ≡ true) → b ≡ false
    by_test true n = absurd (n refl)
    by_test false n = refl

areas_inside : (found : List ℕ) → found ≢ [] → Areas found ≡ inside found
areas_inside [] n = absurd (n refl)
areas_inside (k ∷ ks) n = refl

pub determined : (c : Parts) (p : Point) (place : Place) → IsPlace c p place → place ≡ place_of c p
unfolding place_of
determined c p Edge on = sym (ap (λ b. cond b Edge (inside (insides c p))) (on_is_true c p on))
determined c p Outside (off, none) = sym (ap₂ (λ b ks. cond b Edge (inside ks)) (off_is_false c p off) none)
determined c p (Areas found) (off, some, same) = areas_inside found (λ e. some (sym same ∙ e)) ∙ sym (ap₂ (λ b ks. cond b Edge (inside ks)) (off_is_false c p off) (sym same))

-- the computed answer is where the point lies
pub placed : (c : Parts) (p : Point) (place : Place) → place ≡ place_of c p → IsPlace c p place
unfolding place_of
placed c p place e = by_edge (cases_Bool (is_on_area c p))
  where
    off : is_on_area c p ≡ false → ¬ (IsOnArea c p)
    off f on = true≢false (sym (on_is_true c p on) ∙ f)

    by_areas : is_on_area c p ≡ false → (found : List ℕ) → insides c p ≡ found → IsPlace c p (inside found)
    by_areas f [] g = (off f, g)
    by_areas f (k ∷ ks) g = (off f, (λ h. cc), sym g)

    by_edge : (is_on_area c p ≡ true) ⊎ (is_on_area c p ≡ false) → IsPlace c p place
    by_edge (inl t) = subst (IsPlace c p) (sym (e ∙ ap (λ b. cond b Edge (inside (insides c p))) t)) (on_area c (flat_map (area_segments c) (areas c)) p refl (some_on _ p t))
    by_edge (inr f) = subst (IsPlace c p) (sym (e ∙ ap (λ b. cond b Edge (inside (insides c p))) f)) (by_areas f (insides c p) refl)

-- the answer where p is on an area, and where it is on none
pub on_edge : (c : Parts) (p : Point) (place : Place) → is_on_area c p ≡ true → place ≡ Edge → place ≡ place_of c p
unfolding place_of
on_edge c p place t e = e ∙ sym (ap (λ b. cond b Edge (inside (insides c p))) t)

pub off_edge : (c : Parts) (p : Point) (place : Place) (found : List ℕ) → is_on_area c p ≡ false → place ≡ inside found → found ≡ insides c p → place ≡ place_of c p
unfolding place_of
off_edge c p place found f e g = e ∙ ap inside g ∙ sym (ap (λ b. cond b Edge (inside (insides c p))) f)
