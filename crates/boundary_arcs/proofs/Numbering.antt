-- Numbering of points: a set in the order of insertion holds each point once, and a point that has a number keeps it.
use Rattle.std.proofs.Common.{◌≡◌, ℕ, zero, suc, ◌+◌, ◌≤◌, Bool, true, false, cond, ◌&&◌, List, [], ◌∷◌, ◌++◌, length, Some, sym, ap, ap₂, ◌∙◌, subst, arith, length-append, int_eq}
use Rattle.std.specs.Bool.{Decides}
use Rattle.std.specs.List.{slice_get, list_any, IsDistinct}
use Rattle.std.specs.Prelude.{if◌then◌else◌}
use Rattle.std.proofs.lemmas.Bool.{and_parts, and_from}
use Rattle.std.proofs.lemmas.Bool.Decides.{Decides-int_eq}
use Rattle.std.proofs.lemmas.Map.Made.{AllPairs-from_IsDistinct}
use Rattle.boundary_arcs.specs.Collecting.{IsNumbered}
use Rattle.plane_geom.specs.declared.Point.{Point}

-- the test whether two points are the same, by their coordinates
abbrev pub same_place : Point → Point → Bool
same_place p q = int_eq p.x q.x && int_eq p.y q.y

at_place : (p q : Point) → p.x ≡ q.x → p.y ≡ q.y → p ≡ q
at_place p q e h = ap₂ (λ x y. let r : Point = record { x = x; y = y } in r) e h

pub same_place_decides : (p q : Point) → Decides (same_place p q) (p ≡ q)
same_place_decides p q =
    let x = Decides-int_eq p.x q.x in
    let y = Decides-int_eq p.y q.y in (
      λ t. let both = and_parts (int_eq p.x q.x) (int_eq p.y q.y) t in at_place p q (x.0 both.0) (y.0 both.1),
      λ e. and_from (int_eq p.x q.x) (int_eq p.y q.y) (x.1 (ap (λ (r : Point). r.x) e)) (y.1 (ap (λ (r : Point). r.y) e)),
    )

-- what stands at a place of a list stands there when more follow
pub place_stays : {X : Type 0} (xs ys : List X) (i : ℕ) (x : X) → slice_get xs i ≡ Some x → slice_get (xs ++ ys) i ≡ Some x
place_stays [] ys i x e = cc (e)
place_stays (z ∷ xs) ys zero x e = e
place_stays (z ∷ xs) ys (suc i) x e = place_stays xs ys i x e

stays : (b : Bool) (old : List Point) (p : Point) (i : ℕ) (q : Point) → slice_get old i ≡ Some q → slice_get (cond b old (old ++ p ∷ [])) i ≡ Some q
stays true old p i q e = e
stays false old p i q e = place_stays old (p ∷ []) i q e

longer : (b : Bool) (old : List Point) (p : Point) → length (cond b old (old ++ p ∷ [])) ≤ length old + 1
longer true old p = omega arith
longer false old p = omega (arith, length-append old (p ∷ []))

pub numbered : (old new : List Point) (p : Point) (k : ℕ) → new ≡ (if list_any (same_place p) old then old else old ++ p ∷ [])
    → (x : Point) → slice_get new k ≡ Some x → same_place p x ≡ true → IsDistinct same_place new → IsNumbered old new p k
numbered old new p k e x there same unique = record {
  there = there ∙ ap Some (sym ((same_place_decides p x).0 same));
  stay = λ i q h. subst (λ xs. slice_get xs i ≡ Some q) (sym e) (stays (list_any (same_place p) old) old p i q h);
  once = AllPairs-from_IsDistinct same_place_decides new unique;
  few = subst (λ xs. length xs ≤ length old + 1) (sym e) (longer (list_any (same_place p) old) old p);
}
