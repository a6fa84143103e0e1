-- The edges of rings are there.
use Rattle.std.proofs.Common.{ℕ, zero, suc, ◌+◌, ◌<◌, ◌≤◌, Bool, true, false, List, [], ◌∷◌, ◌++◌, flat_map, length, All, ⊎_elim, arith, subst, sym}
use Rattle.std.specs.List.{range_with_len}
use Rattle.std.proofs.lemmas.Bool.{cases_lt}
use Rattle.std.proofs.lemmas.List.Elements.{All-append, All-cons, All-nil, All-tail}
use Rattle.std.proofs.lemmas.List.{get_or_past}
use Rattle.std.proofs.lemmas.List.Sorted.{All-permutation}
use Rattle.boundary_arcs.specs.Edges.{arc_of}
use Rattle.boundary_arcs.specs.declared.arc.Arc.{Arc}
use Rattle.built_parts.specs.Areas.{NamesArcs, rings_in}
use Rattle.ring_builder.specs.Parts.{bordering, is_set, owner_on, parts_of}
use Rattle.ring_builder.specs.Rings.{HasRings}
use Rattle.ring_builder.specs.declared.ring.Part.{Part}
use Rattle.ring_builder.specs.declared.ring.Ring.{Ring}

one_below : (right left : Bool) (n m : ℕ) → n < m → All (λ (p : Part). p.arc < m) (parts_of right left n)
one_below true true n m l = All-nil (λ p. p.arc < m)
one_below true false n m l = All-cons (λ (p : Part). p.arc < m) (record { arc = n; forward = true }) [] l (All-nil (λ p. p.arc < m))
one_below false true n m l = All-cons (λ (p : Part). p.arc < m) (record { arc = n; forward = false }) [] l (All-nil (λ p. p.arc < m))
one_below false false n m l = All-nil (λ p. p.arc < m)

those_below : (right left : ℕ → Bool) (from count m : ℕ) → from + count ≤ m → All (λ (p : Part). p.arc < m) (flat_map (λ n. parts_of (right n) (left n) n) (range_with_len from count))
those_below right left from zero m l = All-nil (λ p. p.arc < m)
those_below right left from (suc count) m l = All-append (λ (p : Part). p.arc < m) (parts_of (right from) (left from) from) (flat_map (λ n. parts_of (right n) (left n) n) (range_with_len (from + 1) count)) (one_below (right from) (left from) from m (omega arith)) (those_below right left (from + 1) count m (omega arith))

-- what borders a set is one of the edges
bordering_there : (arcs : List Arc) (owner : ℕ → ℕ) (k : ℕ) → All (λ (p : Part). p.arc < length arcs) (bordering arcs owner k)
bordering_there arcs owner k = those_below (λ n. is_set k (owner_on owner (arc_of arcs n).right)) (λ n. is_set k (owner_on owner (arc_of arcs n).left)) 0 (length arcs) (length arcs) (omega arith)

-- what holds of each element of two lists together holds of those of each
All-first : {X : Type 0} (P : X → Type 0) (xs ys : List X) → All P (xs ++ ys) → All P xs
All-first P [] ys h = All-nil P
All-first P (x ∷ xs) ys h = All-cons P x xs (h 0 x (omega arith)) (All-first P xs ys (All-tail P x (xs ++ ys) h))

All-second : {X : Type 0} (P : X → Type 0) (xs ys : List X) → All P (xs ++ ys) → All P ys
All-second P [] ys h = h
All-second P (x ∷ xs) ys h = All-second P xs ys (All-tail P x (xs ++ ys) h)

All-within : {X Y : Type 0} (P : Y → Type 0) (f : X → List Y) (xs : List X) → All P (flat_map f xs) → All (λ x. All P (f x)) xs
All-within P f [] h = All-nil (λ x. All P (f x))
All-within P f (x ∷ xs) h = All-cons (λ z. All P (f z)) x xs (All-first P (f x) (flat_map f xs) h) (All-within P f xs (All-second P (f x) (flat_map f xs) h))

-- the rings of each area are of edges that are there
pub rings_inside : (arcs : List Arc) (owner : ℕ → ℕ) (sets : ℕ) (all : List (List Ring)) → HasRings arcs owner sets all → (k : ℕ) → All (NamesArcs arcs) (rings_in all k)
rings_inside arcs owner sets all h k = ⊎_elim inside beyond (cases_lt k sets)
  where
    inside : k < sets → All (NamesArcs arcs) (rings_in all k)
    inside l = All-within (λ (p : Part). p.arc < length arcs) (λ (r : Ring). r.parts) (rings_in all k) (All-permutation (λ (p : Part). p.arc < length arcs) (bordering arcs owner k) (flat_map (λ (r : Ring). r.parts) (rings_in all k)) (h.rings k l).once (bordering_there arcs owner k))

    beyond : sets ≤ k → All (NamesArcs arcs) (rings_in all k)
    beyond l = subst (All (NamesArcs arcs)) (sym (get_or_past all k [] (let e = h.each in omega (arith, e, l)))) (All-nil (NamesArcs arcs))
