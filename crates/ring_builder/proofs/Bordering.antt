-- The parts that border a set: edges in the order of their numbers, each at most once.
use Rattle.std.proofs.Common.{◌≡◌, ℕ, zero, suc, ◌+◌, ◌<◌, ◌≤◌, Bool, true, false, List, [], ◌∷◌, ◌++◌, flat_map, length, get_or, All, ⊎_elim, arith, length-append}
use Rattle.std.specs.List.{range_with_len}
use Rattle.std.proofs.lemmas.Bool.{cases_lt}
use Rattle.std.proofs.lemmas.List.Elements.{All-append, All-cons, All-nil}
use Rattle.boundary_arcs.specs.Edges.{arc_of}
use Rattle.boundary_arcs.specs.declared.arc.Arc.{Arc}
use Rattle.ring_builder.specs.Lists.{IsPart}
use Rattle.ring_builder.specs.Parts.{bordering, is_set, owner_on, parts_of}
use Rattle.ring_builder.specs.declared.ring.Part.{Part}

-- edges by rising numbers, from n on
abbrev pub Rises : ℕ → List Part → Type 0
Rises n [] = Unit {0}
Rises n (p ∷ ps) = (n ≤ p.arc) × Rises (p.arc + 1) ps

weaken : (n m : ℕ) (ps : List Part) → n ≤ m → Rises m ps → Rises n ps
weaken n m [] l h = tt
weaken n m (p ∷ ps) l h = (let k = h.0 in omega arith, h.1)

one_more : (right left : Bool) (n : ℕ) (ps : List Part) → Rises (n + 1) ps → Rises n (parts_of right left n ++ ps)
one_more true true n ps h = weaken n (n + 1) ps (omega arith) h
one_more true false n ps h = (omega arith, h)
one_more false true n ps h = (omega arith, h)
one_more false false n ps h = weaken n (n + 1) ps (omega arith) h

one_below : (right left : Bool) (n m : ℕ) → n < m → All (λ (p : Part). p.arc < m) (parts_of right left n)
one_below true true n m l = All-nil (λ p. p.arc < m)
one_below true false n m l = All-cons (λ (p : Part). p.arc < m) (record { arc = n; forward = true }) [] l (All-nil (λ p. p.arc < m))
one_below false true n m l = All-cons (λ (p : Part). p.arc < m) (record { arc = n; forward = false }) [] l (All-nil (λ p. p.arc < m))
one_below false false n m l = All-nil (λ p. p.arc < m)

one_at_most : (right left : Bool) (n : ℕ) → length (parts_of right left n) ≤ 1
one_at_most true true n = omega arith
one_at_most true false n = omega arith
one_at_most false true n = omega arith
one_at_most false false n = omega arith

module _ (right left : ℕ → Bool) where
  abbrev those : ℕ → ℕ → List Part
  those from count = flat_map (λ n. parts_of (right n) (left n) n) (range_with_len from count)

  those_rise : (from count : ℕ) → Rises from (those from count)
  those_rise from zero = tt
  those_rise from (suc count) = one_more (right from) (left from) from (those (from + 1) count) (those_rise (from + 1) count)

  those_below : (from count m : ℕ) → from + count ≤ m → All (λ (p : Part). p.arc < m) (those from count)
  those_below from zero m l = All-nil (λ p. p.arc < m)
  those_below from (suc count) m l = All-append (λ (p : Part). p.arc < m) (parts_of (right from) (left from) from) (those (from + 1) count) (one_below (right from) (left from) from m (omega arith)) (those_below (from + 1) count m (omega arith))

  those_few : (from count : ℕ) → length (those from count) ≤ count
  those_few from zero = omega arith
  those_few from (suc count) = omega (arith, length-append (parts_of (right from) (left from) from) (those (from + 1) count), one_at_most (right from) (left from) from, those_few (from + 1) count)

module _ (arcs : List Arc) (owner : ℕ → ℕ) (k : ℕ) where
  abbrev is_right : ℕ → Bool
  is_right n = is_set k (owner_on owner (arc_of arcs n).right)

  abbrev is_left : ℕ → Bool
  is_left n = is_set k (owner_on owner (arc_of arcs n).left)

  pub bordering_rise : Rises 0 (bordering arcs owner k)
  bordering_rise = those_rise is_right is_left 0 (length arcs)

  pub bordering_known : All (IsPart arcs) (bordering arcs owner k)
  bordering_known = those_below is_right is_left 0 (length arcs) (length arcs) (omega arith)

  pub bordering_few : length (bordering arcs owner k) ≤ length arcs
  bordering_few = those_few is_right is_left 0 (length arcs)

-- ---- no edge stands twice
rises_from : (n : ℕ) (ps : List Part) (j : ℕ) (d : Part) → Rises n ps → j < length ps → n ≤ (get_or ps j d).arc
rises_from n [] j d h l = absurd (omega arith)
rises_from n (p ∷ ps) zero d h l = h.0
rises_from n (p ∷ ps) (suc j) d h l =
    let a = h.0 in
    let b = rises_from (p.arc + 1) ps j d h.1 (omega arith) in
    omega arith

rises_between : (n : ℕ) (ps : List Part) (i j : ℕ) (d : Part) → Rises n ps → i < j → j < length ps → (get_or ps i d).arc < (get_or ps j d).arc
rises_between n [] i j d h k l = absurd (omega arith)
rises_between n (p ∷ ps) i zero d h k l = absurd (omega arith)
rises_between n (p ∷ ps) zero (suc j) d h k l = let b = rises_from (p.arc + 1) ps j d h.1 (omega arith) in omega arith
rises_between n (p ∷ ps) (suc i) (suc j) d h k l = rises_between (p.arc + 1) ps i j d h.1 (omega arith) (omega arith)

pub edges_apart : (n : ℕ) (ps : List Part) (i j : ℕ) (d : Part) → Rises n ps → i < length ps → j < length ps → (i ≡ j → ⊥) → (get_or ps i d).arc ≡ (get_or ps j d).arc → ⊥
edges_apart n ps i j d h k l a e = ⊎_elim
    (λ b. let r = rises_between n ps i j d h b l in omega (arith, r, e))
    (λ b. ⊎_elim (λ c. let r = rises_between n ps j i d h c k in omega (arith, r, e)) (λ c. a (omega (arith, b, c))) (cases_lt j i))
    (cases_lt i j)
